use Rattle.std.proofs.Common.{◌≡◌, ◌≤◌, ◌+◌, drop}
use Rattle.subscriptions.specs.Watches.{hearing_count}
use Rattle.subscriptions.proofs.watches.hearing_count.Given as goal

abbrev pub invariant-loop-watch : goal.invariant-loop-watch
invariant-loop-watch l = record {
  few : l.count ≤ l.watch-index;
  counted : l.count + hearing_count l.key (drop l.watch-index l.watches) ≡ hearing_count l.key l.watches;
}
