-- What differs between the digests of two sides.
use Rattle.std.specs.Prelude.{◌≡◌, ℕ, ◌+◌, ◌<◌, nat_eq, Bool, true, not, List, [], ◌∷◌, length, map, All, if◌then◌else◌, Option, slice_get}
use Rattle.std.specs.List.{filter, range_with_len}
use Rattle.std.specs.Option.{option_eq}
use Rattle.std.specs.declared.cmp.Ordering.{Ordering}
use Rattle.std.specs.Cmp.Lexicographic.{pointwise}
use Rattle.std.specs.FinMap.{find, is_sorted, put}
use Rattle.meta_types.specs.Name.{IsName, most_key_len}
use Rattle.frame_fields.specs.declared.keys.KeyDigest.{KeyDigest}
use Rattle.hash_tree.specs.Tree.{Digest, fan}

abbrev pub same_digest : Digest → Digest → Bool
same_digest = pointwise nat_eq

-- two digests are unequal, or just one of them is there
abbrev pub differ : Option Digest → Option Digest → Bool
differ one other = not (option_eq same_digest one other)

-- of sixteen places, in order, those at which the digests differ
abbrev pub differing_places : List Digest → List Digest → List ℕ
differing_places theirs own =
    filter (λ place. differ (slice_get theirs place) (slice_get own place)) (range_with_len 0 fan)

-- the keys of both sides in order, each with their digest if they have it, and otherwise with the
-- own; only the keys are read
abbrev pub of_either : {K : Type 0} → (K → K → Ordering) → List (K × Digest) → List (K × Digest)
    → List (K × Digest)
of_either cmp [] own = own
of_either cmp (entry ∷ theirs) own = of_either cmp theirs (put cmp entry.0 entry.1 own)

-- of the keys of either side, in order, those whose digests differ or that stand on one side alone
abbrev pub differing_keys : {K : Type 0} → (K → K → Ordering) → List (K × Digest)
    → List (K × Digest) → List K
differing_keys cmp theirs own =
    filter (λ key. differ (find cmp key theirs) (find cmp key own))
    (map (λ entry. entry.0) (of_either cmp theirs own))

-- ---- what private contracts speak of

-- the keys that differ, each with their digest of it, if they list it
abbrev pub differing : {K : Type 0} → (K → K → Ordering) → List (K × Digest)
    → List (K × Digest) → List (K × Option Digest)
differing cmp theirs own = map (λ key. (key, find cmp key theirs)) (differing_keys cmp theirs own)

-- what differs where a key stands first: it, with their digest, if its digests differ, and then the
-- rest
abbrev pub then_rest : {K : Type 0} → K → Option Digest → Bool → List (K × Option Digest)
    → List (K × Option Digest)
then_rest key digest differs rest = if differs then (key, digest) ∷ rest else rest

-- the least key of two rising lists of rows, their digest of it, whether it differs, and what
-- follows it in both lists
pub record IsNext {R K : Type 0} (cmp : K → K → Ordering) (parts : R → K × Digest)
    (theirs own : List R) (key : K) (digest : Option Digest) (differs : Bool)
    (their_rest own_rest : List R) : Type 0 where
  pub fewer : length their_rest + length own_rest < length theirs + length own
  pub their_rest_rises : is_sorted cmp (map parts their_rest) ≡ true
  pub own_rest_rises : is_sorted cmp (map parts own_rest) ≡ true
  pub told : differing cmp (map parts theirs) (map parts own)
      ≡ then_rest key digest differs
      (differing cmp (map parts their_rest) (map parts own_rest))

-- the bytes of each key have a length in range
abbrev pub AreNamed : List KeyDigest → Type 0
AreNamed rows = All (λ row. IsName most_key_len row.key) rows
