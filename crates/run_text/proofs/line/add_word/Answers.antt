use Rattle.std.proofs.Common.{◌≡◌, [], ◌∷◌, ◌++◌}
use Rattle.run_text.proofs.Lines.{word_added}
use Rattle.run_text.proofs.line.add_word.Goals as goal

pub returns : goal.returns
returns c =
    let o = c.args.text.now.items in
    let p = c.push.new.self.items in
    let q = c.extend_from_slice.new.self.items in
    let first : p ≡ o ++ 32 ∷ [] = c.in_ok-push.ensures.items in
    let second : q ≡ p ++ c.args.word.now = c.in_ok-extend_from_slice.ensures.items in
    word_added o p q c.args.word.now first second
