use Rattle.std.proofs.Common.{◌≡◌, [], ◌∷◌, ◌++◌}
use Rattle.std.specs.Prelude.{decimal}
use Rattle.scenario_text.specs.Spelling.{random_words, after_spaces, spaced_words}
use Rattle.std.proofs.lemmas.Result.{on_ok_weaker}
use Rattle.run_text.proofs.Lines.{more_added}
use Rattle.run_text.proofs.line.add_pair_with_word.Goals as goal

pub returns : goal.returns
returns c =
    let o = c.args.text.now.items in
    let p = c.add_pair.new.text.items in
    let name = c.args.name.now in
    let words0 = decimal c.args.first ∷ decimal c.args.second ∷ [] in
    let line0 : p ≡ o ++ spaced_words (name ∷ words0) = c.in_ok-add_pair.ensures in
    let last = c.add_labelled.new.text.items in
    on_ok_weaker c.add_labelled.result (λ (added : last ≡ p ++ after_spaces (random_words c.args.word)). more_added o p last name (words0) (random_words c.args.word) line0 added) c.add_labelled.ensures
