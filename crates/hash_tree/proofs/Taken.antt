-- How a hasher that gathers its pieces follows the text.
use Rattle.std.proofs.Common.{◌≡◌, ℕ, List, [], ◌++◌, sym, ap, subst, ◌∙◌, append_assoc}
use Rattle.std.proofs.lemmas.List.{append-nil}
use Rattle.sha2.specs.Hashers.{Holds256}
use Rattle.sha2.specs.declared.Sha256.{Sha256}
use Rattle.hash_tree.specs.declared.text_hasher.TextHasher.{TextHasher}
use Rattle.hash_tree.specs.Hashing.{HasTaken}

-- nothing is gathered
pub taken_all : (h : TextHasher) (text : List ℕ) → Holds256 h.hasher text → h.gathered.items ≡ [] → HasTaken h text
unfolding HasTaken
taken_all h text held none = (text, (held, ap (λ (bytes : List ℕ). text ++ bytes) none ∙ append-nil text))

-- a piece more is gathered
pub taken_more : (h n : TextHasher) (text piece : List ℕ) → HasTaken h text → n.hasher ≡ h.hasher → n.gathered.items ≡ h.gathered.items ++ piece → HasTaken n (text ++ piece)
unfolding HasTaken
taken_more h n text piece taken hasher gathered = (
  taken.0,
  (
    subst (λ (s : Sha256). Holds256 s taken.0) (sym hasher) taken.1.0,
    ap (λ (bytes : List ℕ). taken.0 ++ bytes) gathered ∙ sym (append_assoc taken.0 h.gathered.items piece)
        ∙ ap (λ (bytes : List ℕ). bytes ++ piece) taken.1.1,
  ),
)

-- what is gathered is handed on
pub taken_on : (h : TextHasher) (s : Sha256) (text : List ℕ) → HasTaken h text → ((m : List ℕ) → Holds256 h.hasher m → Holds256 s (m ++ h.gathered.items)) → Holds256 s text
unfolding HasTaken
taken_on h s text taken on = subst (Holds256 s) taken.1.1 (on taken.0 taken.1.0)
