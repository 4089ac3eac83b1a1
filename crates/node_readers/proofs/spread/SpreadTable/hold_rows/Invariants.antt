use Rattle.std.proofs.Common.{◌≡◌, fold}
use Rattle.meta_store.specs.Table.{Table}
use Rattle.meta_store.specs.Kept.{rows_under}
use Rattle.node_readers.specs.Spread.{AreHeld, IsSpreadOf, with_row}
use Rattle.node_readers.proofs.Spreading.{AreNamed}
use Rattle.node_readers.proofs.spread.SpreadTable.hold_rows.Given as goal

abbrev pub invariant-loop-own : goal.invariant-loop-own
invariant-loop-own l =
    ((table : Table) → IsSpreadOf table l.initial.self
    → (so_far : Table) × (IsSpreadOf so_far l.self × (fold with_row so_far (rows_under l.prefix l.own-iterator) ≡ fold with_row table (rows_under l.prefix l.rows))))
    × (AreHeld l.own-iterator × AreNamed l.own-iterator)
