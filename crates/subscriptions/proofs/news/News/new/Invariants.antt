use Rattle.std.proofs.Common.{◌≡◌, length, All}
use Rattle.subscriptions.proofs.news.News.new.Given as goal

abbrev pub invariant-loop : goal.invariant-loop
invariant-loop l =
    (length l.notes.items ≡ l.counter) × All (λ note. note ≡ l.change) l.notes.items
