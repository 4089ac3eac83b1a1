-- Orders: of bytes as in a dictionary, of prefixes and keys part by part, of values by stamp first.
use Rattle.std.specs.Prelude.{ℕ, ◌≡◌, ◌<◌, ◌⊎◌, Bool, List, ◌∷◌, ◌++◌, Option, Some, None}
use Rattle.std.specs.declared.cmp.Ordering.{Ordering}
use Rattle.std.specs.Ordering.{eq_by_cmp, nat_cmp, on, then_cmp}
use Rattle.std.specs.Cmp.Lexicographic.{slice_cmp}
use Rattle.std.specs.Option.{option_cmp}
use Rattle.meta_types.specs.Name.{Prefix, Key}
use Rattle.meta_types.specs.Value.{ValueParts}

-- `longer` begins with `shorter` and has more
pub record IsProperStart (shorter longer : List ℕ) : Type 0 where
  pub next : ℕ
  pub rest : List ℕ
  pub split : longer ≡ shorter ++ next ∷ rest

-- after a common front, the first byte that differs is less in `lesser`
pub record IsLessAtFirstDifference (lesser greater : List ℕ) : Type 0 where
  pub front : List ℕ
  pub low : ℕ
  pub high : ℕ
  pub lesser_rest : List ℕ
  pub greater_rest : List ℕ
  pub lesser_split : lesser ≡ front ++ low ∷ lesser_rest
  pub greater_split : greater ≡ front ++ high ∷ greater_rest
  pub differs : low < high

-- `xs` stands before `ys` in byte order
abbrev pub BytesBefore : List ℕ → List ℕ → Type 0
BytesBefore xs ys = IsProperStart xs ys ⊎ IsLessAtFirstDifference xs ys

-- the first parts decide; if they are equal, the second parts do
abbrev pub PrefixBefore : Prefix → Prefix → Type 0
PrefixBefore p q = BytesBefore p.prefix q.prefix ⊎ ((p.prefix ≡ q.prefix) × BytesBefore p.sub q.sub)

-- the prefixes decide; if they are equal, the keys' own bytes do
abbrev pub KeyBefore : Key → Key → Type 0
KeyBefore k l = PrefixBefore k.prefix l.prefix ⊎ ((k.prefix ≡ l.prefix) × BytesBefore k.key l.key)

-- a tombstone stands before each body, and bodies stand in byte order
abbrev pub BodyBefore : Option (List ℕ) → Option (List ℕ) → Type 0
BodyBefore None None = ⊥
BodyBefore None (Some bytes) = Unit {0}
BodyBefore (Some bytes) None = ⊥
BodyBefore (Some bytes) (Some others) = BytesBefore bytes others

-- the stamps decide; if they are equal, the bodies do
abbrev pub ValueBefore : ValueParts → ValueParts → Type 0
ValueBefore v w = (v.stamp < w.stamp) ⊎ ((v.stamp ≡ w.stamp) × BodyBefore v.body w.body)

-- The same orders as comparisons, which ordered maps go by; the contract of each `cmp` says both.
abbrev pub bytes_cmp : List ℕ → List ℕ → Ordering
bytes_cmp = slice_cmp nat_cmp

abbrev pub prefix_cmp : Prefix → Prefix → Ordering
prefix_cmp = then_cmp (on (λ p. p.prefix) bytes_cmp) (on (λ p. p.sub) bytes_cmp)

-- the same two parts
abbrev pub prefix_eq : Prefix → Prefix → Bool
prefix_eq = eq_by_cmp prefix_cmp

abbrev pub key_cmp : Key → Key → Ordering
key_cmp = then_cmp (on (λ k. k.prefix) prefix_cmp) (on (λ k. k.key) bytes_cmp)

abbrev pub value_cmp : ValueParts → ValueParts → Ordering
value_cmp = then_cmp (on (λ v. v.stamp) nat_cmp) (on (λ v. v.body) (option_cmp bytes_cmp))
