use Rattle.std.proofs.Common.{◌≡◌, [], ◌∷◌, ◌++◌}
use Rattle.std.specs.Prelude.{decimal}
use Rattle.scenario_text.specs.Spelling.{spaced_words}
use Rattle.run_text.proofs.Lines.{line_ended}
use Rattle.run_text.proofs.replay.add_line.Goals as goal

pub returns : goal.returns
returns c =
    let o = c.args.text.now.items in
    let p = c.add_command.new.text.items in
    let q = c.push.new.self.items in
    let line = spaced_words (c.args.name.now ∷ decimal c.args.number ∷ []) in
    let first : p ≡ o ++ line = c.in_ok-add_command.ensures in
    let second : q ≡ p ++ 10 ∷ [] = c.in_ok-push.ensures.items in
    line_ended o p q line first second
