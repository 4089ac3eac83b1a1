use Rattle.std.proofs.Common.{List, ◌≡◌, ◌∷◌, [], ap, refl, ◌∙◌}
use Rattle.sha2.specs.Sha256.{sha256}
use Rattle.hash_tree.specs.Tree.{Digest, leaf_digest, leaf_digests, text_of}
use Rattle.hash_tree.proofs.tree.empty_leaves.Goals as goal

abbrev sixteen : Digest → List Digest
sixteen d = d ∷ d ∷ d ∷ d ∷ d ∷ d ∷ d ∷ d ∷ d ∷ d ∷ d ∷ d ∷ d ∷ d ∷ d ∷ d ∷ []

none : sixteen (sha256 []) ≡ leaf_digests [] 0
unfolding leaf_digest text_of
none = refl

pub returns : goal.returns
returns c = ap sixteen c.empty_digest.ensures ∙ none
