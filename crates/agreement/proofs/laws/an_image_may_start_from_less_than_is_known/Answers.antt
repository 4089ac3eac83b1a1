use Rattle.agreement.proofs.Examples.{behind_is}
use Rattle.agreement.proofs.laws.an_image_may_start_from_less_than_is_known.Goals as goal

pub returns : goal.returns
returns c = behind_is
