use Rattle.std.proofs.Common.{◌≡◌, [], ◌∷◌, ◌++◌}
use Rattle.printing.specs.Field.{bytes_text}
use Rattle.std.proofs.lemmas.Result.{on_ok_weaker}
use Rattle.run_text.proofs.Lines.{word_added}
use Rattle.run_text.proofs.line.add_bytes.Goals as goal

pub returns : goal.returns
returns c =
    let o = c.args.text.now.items in
    let p = c.push.new.self.items in
    let q = c.print_name.new.out.items in
    let first : p ≡ o ++ 32 ∷ [] = c.in_ok-push.ensures.items in
    on_ok_weaker c.print_name.result (λ (second : q ≡ p ++ bytes_text c.args.bytes.now). word_added o p q (bytes_text c.args.bytes.now) first second) c.print_name.ensures.ok
