use Rattle.std.proofs.Common.{◌≡◌, ◌++◌, drop}
use Rattle.subscriptions.proofs.watch.append_copies.Given as goal

abbrev pub invariant-loop-change : goal.invariant-loop-change
invariant-loop-change l =
    l.copies.items ++ drop l.change-index l.changes ≡ l.initial.copies.items ++ l.changes
