use Rattle.std.proofs.Common.{◌≡◌, ℕ, List, ◌++◌}
use Rattle.std.specs.List.{flat_map}
use Rattle.hash_tree.specs.Hashing.{HasTaken}
use Rattle.hash_tree.proofs.ByPrefix.{part_text}
use Rattle.hash_tree.proofs.parts.root_of.Given as goal

abbrev pub invariant-loop-prefix : goal.invariant-loop-prefix
invariant-loop-prefix l = (so_far : List ℕ) × (HasTaken l.hasher so_far × (so_far ++ flat_map part_text l.prefix-iterator ≡ flat_map part_text l.parts.entries))
