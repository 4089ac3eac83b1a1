-- The head of a byte string: its first eight bytes as one number, by which most comparisons end.
-- The rule is our own.
use Rattle.std.specs.Prelude.{ℕ, ◌≡◌, ◌+◌, ◌*◌, ◌<◌, List, get_or}

-- the byte at this place, 0 past the end
abbrev pub byte_at : List ℕ → ℕ → ℕ
byte_at bytes at = get_or bytes at 0

-- the four bytes from this place on as one number, the first of them the greatest digit
abbrev pub four_from : List ℕ → ℕ → ℕ
four_from bytes at =
    ((byte_at bytes at * 256 + byte_at bytes (at + 1)) * 256 + byte_at bytes (at + 2)) * 256
    + byte_at bytes (at + 3)

-- the first eight bytes as one number, the first of them the greatest digit
unfoldable pub head_of : List ℕ → ℕ
head_of bytes = four_from bytes 0 * 4294967296 + four_from bytes 4

-- the number is the head of these bytes
pub record IsHeadOf (head : ℕ) (bytes : List ℕ) : Type 0 where
  pub value : head ≡ head_of bytes
  pub in_range : (at : ℕ) → byte_at bytes at < 256
