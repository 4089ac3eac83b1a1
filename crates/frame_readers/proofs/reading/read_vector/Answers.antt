use Rattle.std.proofs.Common.{arith}
use Rattle.frame_readers.proofs.Found.{vector_from_counters}
use Rattle.frame_readers.proofs.reading.read_vector.Goals as goal

pub new-requires : goal.new-requires
new-requires c = vector_from_counters c.args.bytes.now c.in_ok-counters.counters.items c.in_ok-counters.rest.now (λ i. omega (arith, c.type_inv.bytes i)) c.in_ok-counters.ensures
