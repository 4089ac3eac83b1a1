use Rattle.std.proofs.Common.{◌≡◌, ◌++◌, map, All}
use Rattle.meta_store.specs.Kept.{AreParts, Parts, table_of}
use Rattle.hash_tree.proofs.ByPrefix.{HeldPart, digested_part}
use Rattle.hash_tree.proofs.parts.parts_of.Given as goal

abbrev pub invariant-loop-prefix : goal.invariant-loop-prefix
invariant-loop-prefix l =
    (all : Parts) × ((l.parts.entries ++ map digested_part l.prefix-iterator ≡ map digested_part all) × ((table_of all ≡ l.store) × (AreParts all × All HeldPart l.prefix-iterator)))
