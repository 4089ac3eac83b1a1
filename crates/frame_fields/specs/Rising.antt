-- Rows that rise, in the subject's words. The forms of prefixes and keys say it one row after
-- another; that both are the same is a law (src/laws.rt).
use Rattle.std.specs.Prelude.{ℕ, ◌+◌, ◌<◌, ◌≤◌, List, length, get_or, All}
use Rattle.meta_types.specs.Name.{IsName, IsFullPrefix, most_key_len}
use Rattle.meta_types.specs.Order.{BytesBefore, PrefixBefore}
use Rattle.frame_fields.specs.declared.prefixes.PrefixDigest.{PrefixDigest}
use Rattle.frame_fields.specs.declared.keys.KeyDigest.{KeyDigest}
use Rattle.frame_fields.specs.Digest.{IsDigest}
use Rattle.frame_fields.specs.Field.{most_rows}

-- each element stands before the next
abbrev pub IsRising : {A : Type 0} → (A → A → Type 0) → List A → Type 0
IsRising {A} Before xs = (i : ℕ) (d : A) → i + 1 < length xs
    → Before (get_or xs i d) (get_or xs (i + 1) d)

-- each element stands before all that follow it
abbrev pub IsRisingThroughout : {A : Type 0} → (A → A → Type 0) → List A → Type 0
IsRisingThroughout {A} Before xs = (i j : ℕ) (d : A) → i < j → j < length xs
    → Before (get_or xs i d) (get_or xs j d)

-- a lawful prefix, and a digest
pub record IsPrefixRow (row : PrefixDigest) : Type 0 where
  pub prefix : IsFullPrefix row.prefix
  pub digest : IsDigest row.digest

-- at most 8,192 rows of prefixes, whose prefixes rise strictly
pub record ArePrefixRows (rows : List PrefixDigest) : Type 0 where
  pub few : length rows ≤ most_rows
  pub lawful : All IsPrefixRow rows
  pub rising : IsRising (λ row next. PrefixBefore row.prefix next.prefix) rows

-- the bytes of a key, 1 to 256, and a digest
pub record IsKeyRow (row : KeyDigest) : Type 0 where
  pub key : IsName most_key_len row.key
  pub digest : IsDigest row.digest

-- at most 8,192 rows of keys, whose keys rise strictly
pub record AreKeyRows (rows : List KeyDigest) : Type 0 where
  pub few : length rows ≤ most_rows
  pub lawful : All IsKeyRow rows
  pub rising : IsRising (λ row next. BytesBefore row.key next.key) rows
