use Rattle.std.proofs.Common.{◌≡◌, [], fold, All}
use Rattle.meta_store.specs.Table.{Table}
use Rattle.meta_store.specs.Kept.{table_of}
use Rattle.node_readers.specs.Spread.{IsSpreadOf, with_row}
use Rattle.node_readers.proofs.Spreading.{HeldPart}
use Rattle.node_readers.proofs.spread.SpreadTable.of.Given as goal

abbrev pub invariant-loop-prefix : goal.invariant-loop-prefix
invariant-loop-prefix l =
    ((so_far : Table) × (IsSpreadOf so_far l.spread × (fold with_row so_far (table_of l.prefix-iterator) ≡ fold with_row [] l.store)))
    × All HeldPart l.prefix-iterator
