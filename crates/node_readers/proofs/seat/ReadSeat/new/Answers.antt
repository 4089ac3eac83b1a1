use Rattle.node_readers.proofs.Moves.{admits}
use Rattle.node_readers.proofs.seat.ReadSeat.new.Goals as goal

pub reader-requires : goal.reader-requires
reader-requires g c = admits _ _
