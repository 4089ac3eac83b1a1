use Rattle.std.proofs.Common.{rules, tests, ◌≡◌, length, sym, ◌∙◌}
use Rattle.scenario_text.proofs.Hints.{near_end_left, near_end_right, near_other, near_same}
use Rattle.scenario_text.proofs.near.is_near.Goals as goal
use Rattle.scenario_text.proofs.near.is_near.Goals.{in_default, in_default-2}

pub returns-then-a-b : goal.returns-then-a-b
returns-then-a-b c =
    let pair = c.in-Some-Some in
    rw (c.eq.ensures, c.eq-then-a-b.ensures, c.eq-then-a-b-2.ensures, c.swapped.ensures)
    (sym (c.loop-a.invariant ∙ near_other _ _ pair.a.now pair.b.now _ _ (pair.ensures).cases.0 (pair.ensures').cases.0 c.if-a-b.true))

pub loop-a-preserved : goal.loop-a-preserved
loop-a-preserved c =
    let pair = c.in-Some-Some in
    c.loop-a.invariant ∙ near_same _ _ pair.a.now pair.b.now _ _ (pair.ensures).cases.0 (pair.ensures').cases.0 c.if-a-b.false

pub returns : goal.returns
returns c = elim c.match-split_first.branch [
  | in_default w ↦
      let over : length c.loop-a.right.now ≡ 0 = search (rules, tests) in near_end_right c.loop-a.left.now c.loop-a.right.now over ∙ sym c.loop-a.invariant
  | in_default-2 w ↦
      let over : length c.loop-a.left.now ≡ 0 = search (rules, tests) in near_end_left c.loop-a.left.now c.loop-a.right.now over ∙ sym c.loop-a.invariant
]
