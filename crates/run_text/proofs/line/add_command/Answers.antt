use Rattle.std.proofs.Common.{◌≡◌, [], ◌∷◌, ◌++◌}
use Rattle.std.specs.Prelude.{decimal}
use Rattle.std.proofs.lemmas.Result.{on_ok_weaker}
use Rattle.scenario_text.specs.Spelling.{after_spaces}
use Rattle.run_text.proofs.Lines.{name_added}
use Rattle.run_text.proofs.line.add_command.Goals as goal

pub returns : goal.returns
returns c =
    let o = c.args.text.now.items in
    let p = c.extend_from_slice.new.self.items in
    let q = c.add_number.new.text.items in
    let name = c.args.name.now in
    let words = decimal c.args.number ∷ [] in
    let first : p ≡ o ++ name = c.in_ok-extend_from_slice.ensures.items in
    on_ok_weaker c.add_number.result (λ (second : q ≡ p ++ after_spaces words). name_added o p q name words first second) c.add_number.ensures
