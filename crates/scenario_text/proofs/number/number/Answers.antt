use Rattle.std.proofs.Common.{arith, ◌<◌, length, sym, ◌∙◌}
use Rattle.std.proofs.lemmas.Bool.{eqb-false}
use Rattle.scenario_text.proofs.Numbers.{number_of-next, number_of-all}
use Rattle.scenario_text.proofs.number.number.Goals as goal

pub returns-in_err-checked_mul : goal.returns-in_err-checked_mul
returns-in_err-checked_mul c =
    let large = c.in_err-checked_mul.ensures in
    c.from_residual.ensures
    ∙ sym (number_of-next c.args.word.now c.loop-byte.value c.loop-byte.byte-index c.loop-byte-test.true c.loop-byte.invariant.0 (omega arith))

pub returns-in_err-value : goal.returns-in_err-value
returns-in_err-value c =
    let large = c.in_err-value.ensures in
    let digit = c.from.ensures in
    let tens = c.in_ok-checked_mul.ensures.1 in
    c.from_residual-in_err-value.ensures
    ∙ sym (number_of-next c.args.word.now c.loop-byte.value c.loop-byte.byte-index c.loop-byte-test.true c.loop-byte.invariant.0 (omega arith))

pub returns : goal.returns
returns c =
    let filled = eqb-false (length c.args.word.now) 0 (sym c.is_empty.ensures ∙ c.if-is_empty.false) in
    let some : 0 < length c.args.word.now = omega (arith, filled) in
    sym (number_of-all c.args.word.now c.loop-byte.value c.loop-byte.byte-index some c.if-word-gt-MAX_DIGITS.false c.loop-byte-test.false c.loop-byte.invariant.0 c.loop-byte.invariant.1 c.loop-byte.invariant.2)
