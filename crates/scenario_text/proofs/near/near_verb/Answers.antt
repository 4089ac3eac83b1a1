use Rattle.std.proofs.Common.{◌≡◌, drop, ap, sym, ◌∙◌, arith}
use Rattle.scenario_text.specs.declared.verb.Verb.TheVariants as verbs
use Rattle.scenario_text.specs.Hint.{all_verbs, is_near, near_of}
use Rattle.scenario_text.proofs.Hints.{near_here, near_next, near_none}
use Rattle.scenario_text.proofs.near.near_verb.Goals as goal

pub returns-then-is_near : goal.returns-then-is_near
returns-then-is_near c =
    sym (c.loop-verb.invariant ∙ near_here c.args.word.now all_verbs c.loop-verb.verb-index verbs.Nodes c.loop-verb-test.true
    (ap (is_near c.args.word.now) (sym c.word_of.ensures) ∙ sym c.if-is_near.ensures))

pub loop-verb-preserved : goal.loop-verb-preserved
loop-verb-preserved c =
    c.loop-verb.invariant ∙ near_next c.args.word.now all_verbs c.loop-verb.verb-index verbs.Nodes c.loop-verb-test.true
    (ap (is_near c.args.word.now) (sym c.word_of.ensures) ∙ sym c.if-is_near.ensures)

pub returns : goal.returns
returns c =
    let over : c.loop-verb.verb-index ≡ 24 = omega (arith, c.loop-verb-test.false, c.loop-verb.auto.verb-index-end) in
    sym (c.loop-verb.invariant ∙ ap (λ i. near_of c.args.word.now (drop i all_verbs)) over ∙ near_none c.args.word.now)
