use Rattle.std.proofs.Common.{◌≡◌}
use Rattle.hash_tree.proofs.ByLeaf.{rows_in}
use Rattle.hash_tree.proofs.leaves.Leaves.is_empty.Given as goal

abbrev pub invariant-loop-bucket : goal.invariant-loop-bucket
invariant-loop-bucket l = rows_in l.bucket-iterator ≡ l.self
