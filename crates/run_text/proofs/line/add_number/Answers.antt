use Rattle.std.proofs.Common.{◌≡◌, [], ◌∷◌, ◌++◌}
use Rattle.std.specs.Prelude.{decimal}
use Rattle.std.proofs.lemmas.Result.{on_ok_weaker}
use Rattle.run_text.proofs.Lines.{word_added}
use Rattle.run_text.proofs.line.add_number.Goals as goal

pub returns : goal.returns
returns c =
    let o = c.args.text.now.items in
    let p = c.push.new.self.items in
    let q = c.print_number.new.out.items in
    let first : p ≡ o ++ 32 ∷ [] = c.in_ok-push.ensures.items in
    on_ok_weaker c.print_number.result (λ (second : q ≡ p ++ decimal c.args.number). word_added o p q (decimal c.args.number) first second) c.print_number.ensures.ok
