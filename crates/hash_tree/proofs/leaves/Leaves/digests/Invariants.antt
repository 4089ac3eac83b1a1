use Rattle.std.proofs.Common.{◌≡◌, map}
use Rattle.std.specs.List.{range_with_len}
use Rattle.hash_tree.specs.Tree.{leaf_digest}
use Rattle.hash_tree.proofs.leaves.Leaves.digests.Given as goal

abbrev pub invariant-loop-leaf : goal.invariant-loop-leaf
invariant-loop-leaf l = l.digests.items ≡ map (leaf_digest l.self) (range_with_len 0 l.leaf)
