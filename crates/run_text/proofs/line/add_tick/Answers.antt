use Rattle.std.proofs.Common.{◌≡◌, [], ◌∷◌, ◌++◌}
use Rattle.std.specs.Prelude.{codes, decimal}
use Rattle.scenario_text.specs.Spelling.{random_words, after_spaces, spaced_words}
use Rattle.std.proofs.lemmas.Result.{on_ok_weaker}
use Rattle.run_text.proofs.Lines.{more_added}
use Rattle.run_text.proofs.line.add_tick.Goals as goal

pub returns : goal.returns
returns c =
    let o = c.args.text.now.items in
    let p = c.add_command.new.text.items in
    let name = codes "tick" in
    let words0 = decimal c.args.node ∷ [] in
    let line0 : p ≡ o ++ spaced_words (name ∷ words0) = c.in_ok-add_command.ensures in
    let last = c.add_labelled.new.text.items in
    on_ok_weaker c.add_labelled.result (λ (added : last ≡ p ++ after_spaces (random_words c.args.word)). more_added o p last name (words0) (random_words c.args.word) line0 added) c.add_labelled.ensures
