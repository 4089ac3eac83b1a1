-- What a hasher has taken in.
use Rattle.std.specs.Prelude.{◌≡◌, ℕ, List, ◌++◌}
use Rattle.sha2.specs.Hashers.{Holds256}
use Rattle.hash_tree.specs.declared.text_hasher.TextHasher.{TextHasher}

-- the hasher has taken in this text: the inner one a front of it, and what is gathered is the rest
unfoldable pub HasTaken : TextHasher → List ℕ → Type 0
HasTaken h text = (front : List ℕ) × (Holds256 h.hasher front × (front ++ h.gathered.items ≡ text))

-- the hasher has taken in these bytes, after whatever it had taken in
abbrev pub Adds : TextHasher → TextHasher → List ℕ → Type 0
Adds old new bytes = (text : List ℕ) → HasTaken old text → HasTaken new (text ++ bytes)
