use Rattle.std.proofs.Common.{◌≡◌, take}
use Rattle.node_readers.proofs.spread.SpreadTable.copy.Given as goal

abbrev pub invariant-loop-bucket : goal.invariant-loop-bucket
invariant-loop-bucket l = l.buckets.items ≡ take l.bucket-index l.bucket-items
