use Rattle.dvvset.proofs.Writers.{entries_determine}
use Rattle.dvvset.proofs.laws.entries_determine_an_object.Goals as goal

pub returns : goal.returns
returns c = entries_determine
