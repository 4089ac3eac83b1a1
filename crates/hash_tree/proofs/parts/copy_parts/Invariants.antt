use Rattle.std.proofs.Common.{◌≡◌, ◌++◌}
use Rattle.hash_tree.proofs.parts.copy_parts.Given as goal

abbrev pub invariant-loop-prefix : goal.invariant-loop-prefix
invariant-loop-prefix l = l.copy.entries ++ l.prefix-iterator ≡ l.parts.entries
