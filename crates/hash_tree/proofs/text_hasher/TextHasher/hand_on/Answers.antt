use Rattle.std.proofs.Common.{List, ℕ, ◌++◌, subst}
use Rattle.sha2.specs.Hashers.{Holds256}
use Rattle.hash_tree.proofs.Taken.{taken_all, taken_on}
use Rattle.hash_tree.proofs.text_hasher.TextHasher.hand_on.Goals as goal

pub returns : goal.returns
returns c = λ text taken.
    taken_all _ (text ++ c.args.piece.now)
    (c.update-2.ensures text (taken_on c.args.self.now c.update.new.self text taken
    (λ m held. subst (λ (bytes : List ℕ). Holds256 c.update.new.self (m ++ bytes)) c.as_slice.ensures.value (c.update.ensures m held))))
    c.clear.ensures
