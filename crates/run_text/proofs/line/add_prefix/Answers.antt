use Rattle.std.proofs.Common.{◌≡◌, [], ◌∷◌, ◌++◌}
use Rattle.std.proofs.lemmas.Result.{on_ok_weaker}
use Rattle.printing.specs.Field.{bytes_text}
use Rattle.run_text.proofs.Lines.{prefix_added}
use Rattle.run_text.proofs.line.add_prefix.Goals as goal

pub returns : goal.returns
returns c =
    let o = c.args.text.now.items in
    let p = c.push.new.self.items in
    let q = c.print_name.new.out.items in
    let r = c.push-2.new.self.items in
    let last = c.print_name-2.new.out.items in
    let a = bytes_text c.args.prefix.now.prefix in
    let b = bytes_text c.args.prefix.now.sub in
    let first : p ≡ o ++ 32 ∷ [] = c.in_ok-push.ensures.items in
    let second : q ≡ p ++ a = rw c.prefix.ensures.value at c.in_ok-print_name.ensures.ok in
    let third : r ≡ q ++ 47 ∷ [] = c.in_ok-push-2.ensures.items in
    on_ok_weaker c.print_name-2.result (λ (fourth : last ≡ r ++ bytes_text c.sub.result.now). prefix_added o p q r last a b first second third (rw c.sub.ensures.value at fourth)) c.print_name-2.ensures.ok
