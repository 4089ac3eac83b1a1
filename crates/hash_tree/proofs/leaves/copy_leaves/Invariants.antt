use Rattle.std.proofs.Common.{◌≡◌, ◌++◌}
use Rattle.hash_tree.proofs.leaves.copy_leaves.Given as goal

abbrev pub invariant-loop-leaf : goal.invariant-loop-leaf
invariant-loop-leaf l = l.copy.entries ++ l.leaf-iterator ≡ l.leaves.entries
