use Rattle.std.proofs.Common.{◌≡◌, [], ◌∷◌, ◌++◌}
use Rattle.std.specs.Prelude.{codes, decimal}
use Rattle.printing.specs.Field.{prefix_text}
use Rattle.std.proofs.lemmas.Result.{on_ok_weaker}
use Rattle.scenario_text.specs.Spelling.{after_spaces, spaced_words}
use Rattle.run_text.proofs.Lines.{more_added}
use Rattle.run_text.proofs.line.add_watch.Goals as goal

pub returns : goal.returns
returns c =
    let o = c.args.text.now.items in
    let p = c.add_command.new.text.items in
    let name = codes "watch" in
    let words0 = decimal c.args.node ∷ [] in
    let line0 : p ≡ o ++ spaced_words (name ∷ words0) = c.in_ok-add_command.ensures in
    let q1 = c.add_prefix.new.text.items in
    let line1 = more_added o p q1 name (words0) (prefix_text c.args.prefix.now ∷ []) line0 c.in_ok-add_prefix.ensures in
    let last = c.add_number.new.text.items in
    on_ok_weaker c.add_number.result (λ (added : last ≡ q1 ++ after_spaces (decimal c.args.capacity ∷ [])). more_added o q1 last name ((words0) ++ (prefix_text c.args.prefix.now ∷ [])) (decimal c.args.capacity ∷ []) line1 added) c.add_number.ensures
