use Rattle.std.proofs.Common.{◌≡◌, ◌<◌, ◌≤◌, ◌+◌, length, map, sym, subst, ◌∙◌, arith, rules}
use Rattle.std.proofs.lemmas.Bool.{eqb-true, eqb-false}
use Rattle.std.proofs.lemmas.List.{length-map}
use Rattle.dvvset.proofs.Descending.{Descending, counter_at, descending_absent, descending_below, descending_less, descending_next, descending_skip}
use Rattle.dvvset.proofs.compare.descends_over.Goals as goal
use Rattle.dvvset.proofs.compare.descends_over.Goals.{then-eq+else-count, else-eq}

pub returns-then-i-a : goal.returns-then-i-a
returns-then-i-a g c =
    let a = map g.A.Counts.counter c.args.a.now in
    let b = map g.B.Counts.counter c.args.b.now in
    let left = length-map c.args.a.now g.A.Counts.counter in
    let right = length-map c.args.b.now g.B.Counts.counter in
    sym (descending_absent a b c.loop-j.i c.loop-j.j c.loop-j.invariant (omega (arith, right, c.loop-j-test.true)) (omega (arith, left, c.if-i-a.true)))

pub returns-then-lt : goal.returns-then-lt
returns-then-lt g c =
    let a = map g.A.Counts.counter c.args.a.now in
    let b = map g.B.Counts.counter c.args.b.now in
    let x = c.counter-x.result in
    let y = c.counter-y.result in
    let left = length-map c.args.a.now g.A.Counts.counter in
    let right = length-map c.args.b.now g.B.Counts.counter in
    let inside : c.loop-j.i < length c.args.a.now = omega (arith, left, c.loop-j.invariant.left, c.if-i-a.false) in
    let below : y.id < x.id = search rules in
    let ix = counter_at g.A.Counts.counter c.args.a.now c.loop-j.i c.index-a-i.result x inside c.index-a-i.is c.counter-x.ensures in
    let iy = counter_at g.B.Counts.counter c.args.b.now c.loop-j.j c.index-b-j.result y c.loop-j-test.true c.index-b-j.is c.counter-y.ensures in
    sym (descending_below a b c.loop-j.i c.loop-j.j x y c.loop-j.invariant (omega (arith, left, inside)) (omega (arith, right, c.loop-j-test.true)) ix iy below)

pub returns-then-count : goal.returns-then-count
returns-then-count g c =
    let a = map g.A.Counts.counter c.args.a.now in
    let b = map g.B.Counts.counter c.args.b.now in
    let x = c.counter-x.result in
    let y = c.counter-y.result in
    let left = length-map c.args.a.now g.A.Counts.counter in
    let right = length-map c.args.b.now g.B.Counts.counter in
    let inside : c.loop-j.i < length c.args.a.now = omega (arith, left, c.loop-j.invariant.left, c.if-i-a.false) in
    let same : x.id ≡ y.id = sym c.id-in-loop-j-2.ensures ∙ eqb-true c.id-in-loop-j-2.result c.id-in-loop-j-3.result (sym c.eq.ensures ∙ c.if-eq.true) ∙ c.id-in-loop-j-3.ensures in
    let less : x.count < y.count = omega (arith, c.count.ensures, c.count-then-eq.ensures, c.if-count.true) in
    let ix = counter_at g.A.Counts.counter c.args.a.now c.loop-j.i c.index-a-i.result x inside c.index-a-i.is c.counter-x.ensures in
    let iy = counter_at g.B.Counts.counter c.args.b.now c.loop-j.j c.index-b-j.result y c.loop-j-test.true c.index-b-j.is c.counter-y.ensures in
    sym (descending_less a b c.loop-j.i c.loop-j.j x y c.loop-j.invariant (omega (arith, left, inside)) (omega (arith, right, c.loop-j-test.true)) ix iy same less)

pub loop-j-preserved : goal.loop-j-preserved
loop-j-preserved g c =
    let a = map g.A.Counts.counter c.args.a.now in
    let b = map g.B.Counts.counter c.args.b.now in
    let x = c.counter-x.result in
    let y = c.counter-y.result in
    let left = length-map c.args.a.now g.A.Counts.counter in
    let right = length-map c.args.b.now g.B.Counts.counter in
    let inside : c.loop-j.i < length c.args.a.now = omega (arith, left, c.loop-j.invariant.left, c.if-i-a.false) in
    let li : c.loop-j.i < length a = omega (arith, left, inside) in
    let lj : c.loop-j.j < length b = omega (arith, right, c.loop-j-test.true) in
    let above : x.id ≤ y.id = search rules in
    let ix = counter_at g.A.Counts.counter c.args.a.now c.loop-j.i c.index-a-i.result x inside c.index-a-i.is c.counter-x.ensures in
    let iy = counter_at g.B.Counts.counter c.args.b.now c.loop-j.j c.index-b-j.result y c.loop-j-test.true c.index-b-j.is c.counter-y.ensures in
    elim c.if-eq.branch [
      | then-eq+else-count w ↦
          let same : x.id ≡ y.id = sym c.id-in-loop-j-2.ensures ∙ eqb-true c.id-in-loop-j-2.result c.id-in-loop-j-3.result (sym c.eq.ensures ∙ w.if-eq.true) ∙ c.id-in-loop-j-3.ensures in
          let great : y.count ≤ x.count = omega (arith, w.count.ensures, w.count-then-eq.ensures, w.if-count.false) in
          subst (λ j. Descending a b (c.loop-j.i + 1) j) (sym w.j-is)
          (descending_next a b c.loop-j.i c.loop-j.j x y c.loop-j.invariant li lj ix iy same great)
      | else-eq w ↦
          let other : (x.id ≡ y.id → ⊥) = λ e. eqb-false c.id-in-loop-j-2.result c.id-in-loop-j-3.result (sym c.eq.ensures ∙ w.if-eq.false) (c.id-in-loop-j-2.ensures ∙ e ∙ sym c.id-in-loop-j-3.ensures) in
          let lower : x.id < y.id = omega (arith, above, other) in
          subst (λ j. Descending a b (c.loop-j.i + 1) j) (sym w.j-is)
          (descending_skip a b c.loop-j.i c.loop-j.j x y c.loop-j.invariant li lj ix iy lower)
    ]
