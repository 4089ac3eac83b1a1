use Rattle.std.proofs.Common.{◌≡◌, ◌++◌, drop, take, map, length}
use Rattle.subscriptions.specs.Watching.{with_change}
use Rattle.subscriptions.specs.Watches.{hearing_count}
use Rattle.subscriptions.proofs.watches.Watches.note.Given as goal

abbrev pub invariant-loop-place : goal.invariant-loop-place
invariant-loop-place l =
    let first = l.initial.self-inside.list.items in
    record {
      long : length l.self-inside.list.items ≡ length first;
      noted : l.self-inside.list.items ≡ map (with_change l.fn.news.change) (take l.place first) ++ drop l.place first;
      change : l.news.change ≡ l.fn.news.change;
      notes : l.news.notes ≡ hearing_count l.fn.news.change.key (drop l.place first);
    }
