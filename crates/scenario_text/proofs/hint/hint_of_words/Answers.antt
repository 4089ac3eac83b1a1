use Rattle.std.proofs.Common.{◌≡◌, Some, rules}
use Rattle.std.specs.Prelude.{slice_get}
use Rattle.scenario_text.specs.Word.{words_of}
use Rattle.scenario_text.proofs.Hints.{is_unknown}
use Rattle.scenario_text.proofs.hint.hint_of_words.Goals as goal

pub returns-in-None : goal.returns-in-None
returns-in-None c =
    let first : Some c.in-Some.word.now ≡ slice_get (words_of c.args.line.now) 0 = search rules in
    is_unknown (words_of c.args.line.now) c.in-Some.word.now c.near_verb.result first (λ verb. c.in-None.ensures verb, c.near_verb.ensures)
