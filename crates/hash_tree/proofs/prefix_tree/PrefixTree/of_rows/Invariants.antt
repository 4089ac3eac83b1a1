use Rattle.std.proofs.Common.{◌≡◌, ◌++◌, All}
use Rattle.meta_store.specs.Table.{IsHeld}
use Rattle.meta_store.proofs.Kept.{IsNamed}
use Rattle.hash_tree.specs.Tree.{digest_rows}
use Rattle.hash_tree.proofs.prefix_tree.PrefixTree.of_rows.Given as goal

abbrev pub invariant-loop-key : goal.invariant-loop-key
invariant-loop-key l = (l.leaves ++ digest_rows l.key-iterator ≡ digest_rows l.rows) × (All (λ row. IsHeld row.1) l.key-iterator × All IsNamed l.key-iterator)
