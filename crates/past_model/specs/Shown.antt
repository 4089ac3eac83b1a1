-- What a set of writes under one key shows. The set is given by the places of its writes, beside
-- the list of all.
use Rattle.std.specs.Prelude.{◌≡◌, ℕ, ◌<◌, ◌≤◌, ◌==◌, List, [], ◌∷◌, length, map, filter, All, Bool, true, ◌&&◌, not, ◌⊎◌, ◌↔◌}
use Rattle.std.specs.List.{list_any}
use Rattle.meta_types.specs.Name.{Key}
use Rattle.meta_types.specs.Value.{ValueParts}
use Rattle.dvvset.specs.Object.{Entry, Counter, RisesFrom, ids_counted}
use Rattle.dvvset.specs.Clock.{join, count_for}
use Rattle.dvvset.specs.Writer.{entry_of, shown}
use Rattle.past_model.specs.Sets.{Places}
use Rattle.past_model.specs.Past.{Write, In}

-- a closed set: writes under the key; with each of them those that it had read, and the earlier
-- ones of its writer under the key
pub record IsClosed (ws : List Write) (k : Key) (S : Places) : Type 0 where
  pub of_writes : (p : ℕ) → S p ≡ true → (x : Write) × (In x ws × ((x.place ≡ p) × (x.key ≡ k)))
  pub reads : (x : Write) → In x ws → S x.place ≡ true → (p : ℕ) → x.read p ≡ true → S p ≡ true
  pub earlier : (x y : Write) → In x ws → In y ws → S x.place ≡ true → y.writer ≡ x.writer
      → y.key ≡ k → y.place < x.place → S y.place ≡ true

-- the places of a set, rising
pub record ArePlaces (S : Places) (places : List ℕ) : Type 0 where
  pub all : (p : ℕ) → list_any (λ q. q == p) places ≡ S p
  pub rising : RisesFrom 0 places

-- ---- siblings

-- a write of the set had read the one at the place
abbrev pub was_read : List Write → Places → ℕ → Bool
was_read ws S p = list_any (λ q. S q.place && q.read p) ws

-- a write of the set that no write of the set had read
abbrev pub is_sibling : List Write → Places → Write → Bool
is_sibling ws S x = S x.place && not (was_read ws S x.place)

-- by writer, and of one writer the later first
abbrev pub ComesBefore : Write → Write → Type 0
ComesBefore x y = (x.writer < y.writer) ⊎ ((x.writer ≡ y.writer) × (y.place < x.place))

abbrev pub InOrder : List Write → Type 0
InOrder [] = Unit {0}
InOrder (x ∷ xs) = ((y : Write) → In y xs → ComesBefore x y) × InOrder xs

-- the siblings of the set, all of them, in their order
pub record AreSiblings (ws : List Write) (S : Places) (xs : List Write) : Type 0 where
  pub members : (x : Write) → In x xs ↔ (In x ws × (is_sibling ws S x ≡ true))
  pub ordered : InOrder xs

-- the values are those of the siblings
pub record Shows (ws : List Write) (S : Places) (values : List ValueParts) : Type 0 where
  pub siblings : List Write
  pub are : AreSiblings ws S siblings
  pub of_siblings : values ≡ map (λ x. x.value) siblings

-- ---- the context

-- how many writes of a writer the set has
abbrev pub count_in : List Write → Places → ℕ → ℕ
count_in ws S w = length (filter (λ x. x.writer == w && S x.place) ws)

-- the context of the set: in the order of the writers, each that has a write in the set, and the
-- number of its writes in the set
pub record IsContext (ws : List Write) (S : Places) (counters : List Counter) : Type 0 where
  pub rising : RisesFrom 0 (ids_counted counters)
  pub counts : (w : ℕ) → count_for counters w ≡ count_in ws S w
  pub held : All (λ c. 1 ≤ c.count) counters

-- ---- the object

-- the values of a writer's siblings, in the order of the list, which in a history is the later
-- first
abbrev pub siblings_by : List Write → Places → ℕ → List ValueParts
siblings_by ws S w = map (λ x. x.value) (filter (λ x. x.writer == w && is_sibling ws S x) ws)

-- the object of a closed set: the context by its counters, and of each writer the siblings
pub record IsObjectOf (ws : List Write) (k : Key) (S : Places) (object : List Entry) : Type 0 where
  pub closed : IsClosed ws k S
  pub context : IsContext ws S (join object)
  pub siblings : (w : ℕ) → shown (entry_of object w) ≡ siblings_by ws S w
