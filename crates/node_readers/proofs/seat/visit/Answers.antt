use Rattle.node_readers.proofs.Moves.{stays}
use Rattle.node_readers.proofs.seat.visit.Goals as goal

pub enter_as-requires : goal.enter_as-requires
enter_as-requires g c = stays _ _ _ _
