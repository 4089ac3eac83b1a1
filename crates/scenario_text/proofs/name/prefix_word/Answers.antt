use Rattle.std.proofs.Common.{sym, ◌∙◌}
use Rattle.std.proofs.lemmas.Bool.{and_from, and_left, and_right, cond-true, cond-false}
use Rattle.scenario_text.proofs.Names.{full_prefix_of-one, full_prefix_of-two}
use Rattle.scenario_text.proofs.name.prefix_word.Goals as goal
use Rattle.scenario_text.proofs.name.prefix_word.Goals.{else-are_plain-via-then-are_plain+else-are_plain-2, else-are_plain-via-else-are_plain}

pub returns-in_err-prefix : goal.returns-in_err-prefix
returns-in_err-prefix c = rw c.from_residual.ensures (sym (full_prefix_of-one c.args.word.now c.in_err-prefix.ensures))

pub returns-then-are_plain-2 : goal.returns-then-are_plain-2
returns-then-are_plain-2 c =
    let split = c.in_ok-prefix.ensures in
    let two = full_prefix_of-two c.args.word.now c.in_ok-prefix.prefix.now c.in_ok-prefix.sub.now split.0 split.1 in
    sym (two ∙ cond-true _ _ _ (and_from _ _ (sym c.if-are_plain.ensures) (sym c.if-are_plain-2.ensures)))

pub returns-else-are_plain : goal.returns-else-are_plain
returns-else-are_plain c =
    let split = c.in_ok-prefix.ensures in
    let two = full_prefix_of-two c.args.word.now c.in_ok-prefix.prefix.now c.in_ok-prefix.sub.now split.0 split.1 in
    elim c.else-are_plain.branch [
      | else-are_plain-via-then-are_plain+else-are_plain-2 w ↦ sym (two ∙ cond-false _ _ _ (and_right _ _ (sym w.if-are_plain-2.ensures)))
      | else-are_plain-via-else-are_plain w ↦ sym (two ∙ cond-false _ _ _ (and_left _ _ (sym w.if-are_plain.ensures)))
    ]
