use Rattle.std.proofs.Common.{◌≡◌, [], ◌∷◌, ◌++◌}
use Rattle.printing.specs.Field.{key_text}
use Rattle.std.proofs.lemmas.Result.{on_ok_weaker}
use Rattle.run_text.proofs.Lines.{word_added}
use Rattle.run_text.proofs.line.add_key.Goals as goal

pub returns : goal.returns
returns c =
    let o = c.args.text.now.items in
    let p = c.push.new.self.items in
    let q = c.print_key.new.out.items in
    let first : p ≡ o ++ 32 ∷ [] = c.in_ok-push.ensures.items in
    on_ok_weaker c.print_key.result (λ (second : q ≡ p ++ key_text c.args.key.now). word_added o p q (key_text c.args.key.now) first second) c.print_key.ensures.ok
