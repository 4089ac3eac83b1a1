use Rattle.std.proofs.Common.{List, ℕ, ◌++◌, subst, ◌∙◌}
use Rattle.sha2.specs.Hashers.{Holds256}
use Rattle.hash_tree.proofs.Taken.{taken_on}
use Rattle.hash_tree.proofs.text_hasher.TextHasher.finish.Goals as goal

pub returns : goal.returns
returns c = λ text taken.
    c.new.ensures
    ∙ c.finalize.ensures text (taken_on c.args.self c.update.new.self text taken
    (λ m held. subst (λ (bytes : List ℕ). Holds256 c.update.new.self (m ++ bytes)) c.as_slice.ensures.value (c.update.ensures m held)))
