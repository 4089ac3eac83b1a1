use Rattle.frame_fields.proofs.Ordered.{prefixes_rise_throughout, keys_rise_throughout}
use Rattle.frame_fields.proofs.laws.rows_that_fit_rise_throughout.Goals as goal

pub returns-clause-prefixes : goal.returns-clause-prefixes
returns-clause-prefixes c = prefixes_rise_throughout

pub returns-clause-keys : goal.returns-clause-keys
returns-clause-keys c = keys_rise_throughout
