use Rattle.world_core.proofs.Telling.{one_told}
use Rattle.world_core.proofs.laws.one_history_is_told.Goals as goal

pub returns : goal.returns
returns c = one_told
