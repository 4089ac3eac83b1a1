use Rattle.std.proofs.Common.{◌↔◌, IsTrue, Option, inl, inr, not, ap, refl, subst, sym, ◌∙◌}
use Rattle.scenario_text.specs.Commands.{Command}
use Rattle.run_text.specs.Replay.{IsSpelled, step_command}
use Rattle.run_text.proofs.Spellings.{take_command, write_alone}
use Rattle.run_text.proofs.spelling.is_spelled_step.Goals as goal

pub returns-then-is_none : goal.returns-then-is_none
returns-then-is_none c =
    let h = c.in-Write in
    let alone = c.is_none.ensures ∙ ap not c.if-is_none.true in
    let is = ap (step_command c.args.node) h.is ∙ write_alone c.args.node h.key h.value h.context alone in
    subst (λ (command : Option Command). IsTrue c.is_spelled_write.result ↔ IsSpelled command) (sym is) c.is_spelled_write.ensures

pub returns-then-word-eq0 : goal.returns-then-word-eq0
returns-then-word-eq0 c =
    let junk = rw c.as_slice.ensures at c.is_spelled_junk.ensures in
    let is = ap (step_command c.args.node) c.in-Take.is ∙ take_command c.args.node c.in-Take.frame c.in-Take.word c.if-word-eq0.true in
    subst (λ (command : Option Command). IsTrue c.is_spelled_junk.result ↔ IsSpelled command) (sym is) junk

pub returns-in-Watch : goal.returns-in-Watch
returns-in-Watch c = rw c.in-Watch.is c.is_spelled_watch.ensures

pub returns-in-Tick : goal.returns-in-Tick
returns-in-Tick c = rw c.in-Tick.is (λ yes. (refl, λ r. (c.ranges.node.fits, c.know_number.ensures)), λ is. refl)

pub returns-in-Changes : goal.returns-in-Changes
returns-in-Changes c = rw c.in-Changes.is (λ yes. (refl, λ r. (c.ranges.node.fits, c.know_number-in-Changes.ensures)), λ is. refl)

pub returns-in-Read : goal.returns-in-Read
returns-in-Read c = elim c.in-Read.is [
  | inl read ↦ rw read c.is_spelled_under.ensures.read
  | inr keep ↦ rw keep c.is_spelled_under.ensures.keep
]
