use Rattle.std.proofs.Common.{sym, ◌∙◌}
use Rattle.std.proofs.lemmas.Bool.{and_from, and_left, and_right, cond-true, cond-false}
use Rattle.scenario_text.proofs.Names.{key_of-one, key_of-two, key_of-three}
use Rattle.scenario_text.proofs.name.key_word.Goals as goal
use Rattle.scenario_text.proofs.name.key_word.Goals.{else-are_plain-via-then-are_plain+then-are_plain-2+else-are_plain-3, else-are_plain-via-then-are_plain+else-are_plain-2, else-are_plain-via-else-are_plain}

pub returns-in_err-prefix : goal.returns-in_err-prefix
returns-in_err-prefix c = rw c.from_residual.ensures (sym (key_of-one c.args.word.now c.in_err-prefix.ensures))

pub returns-in_err-sub : goal.returns-in_err-sub
returns-in_err-sub c =
    let first = c.in_ok-prefix.ensures in
    rw c.from_residual-in_err-sub.ensures
    (sym (key_of-two c.args.word.now c.in_ok-prefix.prefix.now c.in_ok-prefix.rest.now first.0 first.1 c.in_err-sub.ensures))

pub returns-then-are_plain-3 : goal.returns-then-are_plain-3
returns-then-are_plain-3 c =
    let first = c.in_ok-prefix.ensures in
    let second = c.in_ok-sub.ensures in
    let three = key_of-three c.args.word.now c.in_ok-prefix.prefix.now c.in_ok-prefix.rest.now c.in_ok-sub.sub.now c.in_ok-sub.key.now first.0 first.1 second.0 second.1 in
    sym (three ∙ cond-true _ _ _ (and_from _ _ (sym c.if-are_plain.ensures) (and_from _ _ (sym c.if-are_plain-2.ensures) (sym c.if-are_plain-3.ensures))))

pub returns-else-are_plain : goal.returns-else-are_plain
returns-else-are_plain c =
    let first = c.in_ok-prefix.ensures in
    let second = c.in_ok-sub.ensures in
    let three = key_of-three c.args.word.now c.in_ok-prefix.prefix.now c.in_ok-prefix.rest.now c.in_ok-sub.sub.now c.in_ok-sub.key.now first.0 first.1 second.0 second.1 in
    elim c.else-are_plain.branch [
      | else-are_plain-via-then-are_plain+then-are_plain-2+else-are_plain-3 w ↦ sym (three ∙ cond-false _ _ _ (and_right _ _ (and_right _ _ (sym w.if-are_plain-3.ensures))))
      | else-are_plain-via-then-are_plain+else-are_plain-2 w ↦ sym (three ∙ cond-false _ _ _ (and_right _ _ (and_left _ _ (sym w.if-are_plain-2.ensures))))
      | else-are_plain-via-else-are_plain w ↦ sym (three ∙ cond-false _ _ _ (and_left _ _ (sym w.if-are_plain.ensures)))
    ]
