use Rattle.std.proofs.Common.{arith, ap, sym, is_lt, ◌∙◌}
use Rattle.std.proofs.lemmas.List.MinMax.{IsFirstBest-none, IsFirstBest-keeps, IsFirstBest-takes}
use Rattle.resolvers.proofs.Greatest.{beats_is_an_order, first_best_is_first_greatest}
use Rattle.resolvers.proofs.resolver.first_greatest.Goals.{then-is_lt, else-is_lt}
use Rattle.resolvers.proofs.resolver.first_greatest.Goals as goal

pub loop-place-init : goal.loop-place-init
loop-place-init c = IsFirstBest-none (beats_is_an_order c.args.rank) c.args.values.now

pub loop-place-preserved : goal.loop-place-preserved
loop-place-preserved c =
    let order = beats_is_an_order c.args.rank in
    let values = c.args.values.now in
    let best = c.loop-place.invariant in
    let inside = c.loop-place-test.true in
    let new = c.index-values-place in
    let old = c.index-values-greatest in
    let is = sym (ap is_lt c.compare.ensures) ∙ sym c.is_lt.ensures in
    elim c.if-is_lt.branch [
      | then-is_lt w ↦ rw w.greatest-is (IsFirstBest-takes order values c.loop-place.place c.loop-place.greatest new.result old.result best inside new.is old.is (is ∙ w.if-is_lt.true))
      | else-is_lt w ↦ rw w.greatest-is (IsFirstBest-keeps order values c.loop-place.place c.loop-place.greatest new.result old.result best inside new.is old.is (is ∙ w.if-is_lt.false))
    ]

pub returns-clause-first : goal.returns-clause-first
returns-clause-first c =
    first_best_is_first_greatest c.args.rank c.args.values.now c.loop-place.place c.loop-place.greatest
    c.loop-place.invariant
    (omega (arith, c.loop-place-test.false, c.loop-place.auto.place-end, c.requires))
