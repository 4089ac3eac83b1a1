use Rattle.std.proofs.Common.{◌<◌, length, sym, ◌∙◌, arith}
use Rattle.std.proofs.lemmas.Bool.{eqb-true, eqb-false}
use Rattle.scenario_text.proofs.Parts.{words_of-empty, words_of-only, splits_word}
use Rattle.scenario_text.proofs.words.split_word.Goals as goal

pub returns-then-is_empty : goal.returns-then-is_empty
returns-then-is_empty c =
    let bytes = c.without_spaces-bytes.result.now in
    sym c.without_spaces-bytes.ensures.words ∙ words_of-empty bytes (eqb-true (length bytes) 0 (sym c.if-is_empty.ensures))

pub returns-in-None : goal.returns-in-None
returns-in-None c =
    let bytes = c.without_spaces-bytes.result.now in
    let filled = eqb-false (length bytes) 0 (sym c.if-is_empty.ensures) in
    let some : 0 < length bytes = omega (arith, filled) in
    sym c.without_spaces-bytes.ensures.words ∙ words_of-only bytes some c.in-None.ensures

pub returns-in_default : goal.returns-in_default
returns-in_default c =
    splits_word c.args.line.now c.without_spaces-bytes.result.now c.split_once.result c.without_spaces-bytes.ensures.words c.without_spaces-bytes.ensures.front c.split_once.ensures c.in_default.not-None
