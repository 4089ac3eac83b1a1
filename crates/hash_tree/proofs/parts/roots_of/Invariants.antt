use Rattle.std.proofs.Common.{◌≡◌, ◌++◌, map}
use Rattle.hash_tree.proofs.ByPrefix.{part_root}
use Rattle.hash_tree.proofs.parts.roots_of.Given as goal

abbrev pub invariant-loop-prefix : goal.invariant-loop-prefix
invariant-loop-prefix l = l.roots.items ++ map part_root l.prefix-iterator ≡ map part_root l.parts.entries
