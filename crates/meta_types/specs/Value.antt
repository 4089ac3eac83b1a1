use Rattle.std.specs.Prelude.{ℕ, ◌≤◌, ◌<◌, ◌^◌, List, length, Option, Some, None, Vec}

-- what a write stores: the writer's stamp, and bytes, or none for a tombstone
pub record ValueParts : Type 0 where
  pub stamp : ℕ
  pub body : Option (List ℕ)

-- the most bytes of a value
abbrev pub most_body_len : ℕ
most_body_len = 1024

-- a tombstone, or at most as many bytes as a value may have
abbrev pub IsBody : Option (List ℕ) → Type 0
IsBody None = Unit {0}
IsBody (Some bytes) = length bytes ≤ most_body_len

-- a stamp of 64 bits and a body in range
abbrev pub IsValue : ValueParts → Type 0
IsValue v = (v.stamp < 2 ^ 64) × IsBody v.body

-- the body that is handed in, by its bytes
abbrev pub body_of : {A : Type 0} → Option (Vec ℕ A) → Option (List ℕ)
body_of None = None
body_of (Some bytes) = Some bytes.items
