use Rattle.std.proofs.Common.{◌≡◌, ◌++◌}
use Rattle.node_core.proofs.table.store_of.Given as goal

abbrev pub invariant-loop-row : goal.invariant-loop-row
invariant-loop-row l = l.store ++ l.row-iterator.rest.items ≡ l.fn.rows.items
