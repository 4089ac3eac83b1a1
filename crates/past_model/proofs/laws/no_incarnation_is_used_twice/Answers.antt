use Rattle.past_model.proofs.Renewed.{used_once}
use Rattle.past_model.proofs.laws.no_incarnation_is_used_twice.Goals as goal

pub returns : goal.returns
returns c = used_once
