-- Sets of places in one list of happenings.
use Rattle.std.specs.Prelude.{◌≡◌, ℕ, ◌==◌, if◌then◌else◌, Bool, true, false, ◌||◌}
use Rattle.meta_types.specs.Name.{Key}
use Rattle.meta_types.specs.Equal.{key_eq}

-- a set of places in the list of happenings
abbrev pub Places : Type 0
Places = ℕ → Bool

abbrev pub empty : Places
empty p = false

abbrev pub singleton : ℕ → Places
singleton place p = p == place

abbrev pub union : Places → Places → Places
union S T p = S p || T p

pub record IsSubset (S T : Places) : Type 0 where
  pub within : (p : ℕ) → S p ≡ true → T p ≡ true

-- a set of places under each key
abbrev pub Knowledge : Type 0
Knowledge = Key → Places

abbrev pub knows_nothing : Knowledge
knows_nothing k = empty

-- the set S under k, and under each other key what there was
abbrev pub with_set : Knowledge → Key → Places → Knowledge
with_set v k S l = if key_eq l k then S else v l

abbrev pub union_by_key : Knowledge → Knowledge → Knowledge
union_by_key v w k = union (v k) (w k)

-- x for n, and for each other number what there was
abbrev pub set_at : {A : Type 0} → (ℕ → A) → ℕ → A → ℕ → A
set_at f n x m = if m == n then x else f m
