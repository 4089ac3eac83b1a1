use Rattle.std.proofs.Common.{◌+◌, ◌++◌, ◌≡◌, ◌≤◌, length, vec_len, vec_capacity}
use Rattle.subscriptions.proofs.watch.move_all.Given as goal

abbrev pub invariant-loop-change : goal.invariant-loop-change
invariant-loop-change l =
    (l.to.items ++ l.from.items ≡ l.initial.to.items ++ l.initial.from.items)
    × (l.from.capacity ≡ l.initial.from.capacity)
    × (vec_len l.to + length l.from.items ≤ vec_capacity l.to)

abbrev pub decreases-loop-change : goal.decreases-loop-change
decreases-loop-change l = length l.from.items
