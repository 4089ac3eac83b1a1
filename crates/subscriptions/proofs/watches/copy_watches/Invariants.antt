use Rattle.std.proofs.Common.{◌≡◌, take}
use Rattle.subscriptions.proofs.watches.copy_watches.Given as goal

abbrev pub invariant-loop-watch : goal.invariant-loop-watch
invariant-loop-watch l = l.copies.items ≡ take l.watch-index l.watches
