use Rattle.std.proofs.Common.{◌≡◌, ◌<◌, take, fold}
use Rattle.node_readers.specs.Spread.{with_byte}
use Rattle.node_readers.proofs.spread.bucket_of.Given as goal

abbrev pub invariant-loop-byte : goal.invariant-loop-byte
invariant-loop-byte l = (l.number < 65536) × (l.number ≡ fold with_byte 0 (take l.byte-index l.byte-items))
