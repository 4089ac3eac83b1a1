use Rattle.std.proofs.Common.{◌++◌, ◌≡◌, take}
use Rattle.circular_buffer.specs.Buffer.{buffer}
use Rattle.subscriptions.proofs.watch.push_copies.Given as goal

abbrev pub invariant-loop-change : goal.invariant-loop-change
invariant-loop-change l =
    l.copies ≡ buffer (l.initial.copies.items ++ take l.change-index l.changes) l.initial.copies.capacity
