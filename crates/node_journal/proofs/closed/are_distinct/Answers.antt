use Rattle.std.proofs.Common.{◌≡◌, nat_eq, true, false, length, refl, sym, ◌∙◌, arith}
use Rattle.std.specs.List.{list_any}
use Rattle.node_journal.specs.Closed.{number_of}
use Rattle.node_journal.proofs.Apart.{apart_at_end, apart_before, stands_twice}
use Rattle.node_journal.proofs.closed.are_distinct.Goals as goal

pub returns-then-has_twin : goal.returns-then-has_twin
returns-then-has_twin c =
    let one = c.index-closed-place.result in
    let has : list_any (λ d. nat_eq (number_of one) (number_of d)) c.behind.result.now ≡ true =
    sym c.has_twin.ensures ∙ c.if-has_twin.true in
    let twice = stands_twice c.args.closed.now c.loop-place.place one c.loop-place-test.true
    c.index-closed-place.is (rw c.behind.ensures at has) in
    ((λ no_way. absurd (cc)), (λ apart. absurd (twice apart)))

pub loop-place-preserved : goal.loop-place-preserved
loop-place-preserved c rest =
    let one = c.index-closed-place.result in
    let hasnt : list_any (λ d. nat_eq (number_of one) (number_of d)) c.behind.result.now ≡ false =
    sym c.has_twin.ensures ∙ c.if-has_twin.false in
    c.loop-place.invariant (apart_before c.args.closed.now c.loop-place.place one
    c.loop-place-test.true c.index-closed-place.is (rw c.behind.ensures at hasnt) rest)

pub returns : goal.returns
returns c =
    let end : length c.args.closed.now ≡ c.loop-place.place = omega arith in (
      (λ _. c.loop-place.invariant (apart_at_end c.args.closed.now c.loop-place.place end)),
      (λ _. refl),
    )
