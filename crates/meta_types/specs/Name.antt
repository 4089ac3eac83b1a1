use Rattle.std.specs.Prelude.{ℕ, ◌≤◌, List, length}

-- the two parts of a full prefix, as lists of bytes
pub record Prefix : Type 0 where
  pub prefix : List ℕ
  pub sub : List ℕ

-- a full prefix, and the bytes of a key under it
pub record Key : Type 0 where
  pub prefix : Prefix
  pub key : List ℕ

-- a name has at least one byte and at most `most`
abbrev pub IsName : ℕ → List ℕ → Type 0
IsName most bytes = (1 ≤ length bytes) × (length bytes ≤ most)

-- the most bytes of each part of a full prefix, and of a key under it
abbrev pub most_prefix_len : ℕ
most_prefix_len = 64

abbrev pub most_key_len : ℕ
most_key_len = 256

-- both parts of a full prefix have a length in range
abbrev pub IsFullPrefix : Prefix → Type 0
IsFullPrefix p = IsName most_prefix_len p.prefix × IsName most_prefix_len p.sub

-- each part of a key has a length in range
abbrev pub IsKey : Key → Type 0
IsKey k = IsFullPrefix k.prefix × IsName most_key_len k.key
