use Rattle.std.proofs.Common.{◌≡◌}
use Rattle.std.proofs.lemmas.List.Elements.{All-pop}
use Rattle.subscriptions.proofs.news.News.next.Goals as goal

pub invariant_of-self : goal.invariant_of-self
invariant_of-self c =
    (All-pop (λ note. note ≡ c.self.inside.change) c.self.inside.notes.items c.pop.new.self.items c.pop.result c.pop.ensures.items c.self.invariant).0
