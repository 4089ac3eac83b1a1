use Rattle.std.proofs.Common.{◌≡◌, [], ◌∷◌, ◌++◌}
use Rattle.std.specs.Prelude.{decimal}
use Rattle.printing.specs.Field.{key_text}
use Rattle.std.proofs.lemmas.Result.{on_ok_weaker}
use Rattle.scenario_text.specs.Spelling.{after_spaces, spaced_words}
use Rattle.run_text.proofs.Lines.{more_added}
use Rattle.run_text.proofs.line.add_under.Goals as goal

pub returns : goal.returns
returns c =
    let o = c.args.text.now.items in
    let p = c.add_command.new.text.items in
    let name = c.args.name.now in
    let words0 = decimal c.args.node ∷ [] in
    let line0 : p ≡ o ++ spaced_words (name ∷ words0) = c.in_ok-add_command.ensures in
    let last = c.add_key.new.text.items in
    on_ok_weaker c.add_key.result (λ (added : last ≡ p ++ after_spaces (key_text c.args.key.now ∷ [])). more_added o p last name (words0) (key_text c.args.key.now ∷ []) line0 added) c.add_key.ensures
