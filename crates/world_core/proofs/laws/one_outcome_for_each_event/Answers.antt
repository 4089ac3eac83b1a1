use Rattle.world_core.proofs.Deciding.{one_outcome}
use Rattle.world_core.proofs.laws.one_outcome_for_each_event.Goals as goal

pub returns : goal.returns
returns c = one_outcome
