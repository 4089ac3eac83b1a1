use Rattle.std.proofs.Common.{◌≡◌, [], replicate}
use Rattle.node_readers.proofs.spread.SpreadTable.empty.Given as goal

abbrev pub invariant-loop-bucket : goal.invariant-loop-bucket
invariant-loop-bucket l = l.buckets.items ≡ replicate l._bucket []
