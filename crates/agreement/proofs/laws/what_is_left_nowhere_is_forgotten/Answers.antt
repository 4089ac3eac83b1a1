use Rattle.agreement.proofs.Forgotten.{forgotten}
use Rattle.agreement.proofs.laws.what_is_left_nowhere_is_forgotten.Goals as goal

pub returns : goal.returns
returns c = λ before after k W is. forgotten before after k W is.places is.left is.contexts
