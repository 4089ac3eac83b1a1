use Rattle.frame_fields.proofs.Ordered.{prefixes_rise, keys_rise}
use Rattle.frame_fields.proofs.laws.rows_fit_where_they_rise.Goals as goal

pub returns-clause-prefixes : goal.returns-clause-prefixes
returns-clause-prefixes c = prefixes_rise

pub returns-clause-keys : goal.returns-clause-keys
returns-clause-keys c = keys_rise
