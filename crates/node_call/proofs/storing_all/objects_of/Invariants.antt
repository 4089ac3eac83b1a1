use Rattle.std.proofs.Common.{◌≡◌, All, take}
use Rattle.meta_store.specs.Table.{IsHeld}
use Rattle.node_call.specs.Stored.{stored_rows}
use Rattle.node_call.proofs.storing_all.objects_of.Given as goal

abbrev pub invariant-loop-change : goal.invariant-loop-change
invariant-loop-change l =
    (l.objects.items ≡ stored_rows (take l.change-index l.changes))
    × All (λ c. IsHeld c.object) (take l.change-index l.changes)
