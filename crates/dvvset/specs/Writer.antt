-- What a merge and a write do, writer by writer: the laws above the formulas.
use Rattle.std.specs.Prelude.{◌≡◌, ℕ, ◌+◌, ◌-◌, ◌==◌, nat_le, max, if◌then◌else◌, List, [], ◌∷◌, ◌++◌, length, take, map, Option, Some, None}
use Rattle.meta_types.specs.Value.{ValueParts}
use Rattle.dvvset.specs.Object.{Entry, Counter}
use Rattle.dvvset.specs.Clock.{join, cover, count_for}

-- a writer's entry, if there is one
abbrev pub entry_of : List Entry → ℕ → Option Entry
entry_of [] w = None
entry_of (x ∷ xs) w = if x.id == w then Some x else entry_of xs w

-- how many events of a writer an object knows
abbrev pub count_of : List Entry → ℕ → ℕ
count_of es w = count_for (join es) w

-- ---- a merge

-- both sides know the writer: the merge knows the events that either knows, shows none that either
-- has covered, and its values are the newest of the side that knows more, or of the first side if
-- both know equally many
pub record IsMerged (a b merged : Entry) : Type 0 where
  pub id : merged.id ≡ a.id
  pub count : merged.count ≡ max a.count b.count
  pub covered : cover merged ≡ max (cover a) (cover b)
  pub newest : merged.values
      ≡ take (length merged.values) (if nat_le b.count a.count then a.values else b.values)

-- an entry that stands on one side alone stays as it is
abbrev pub MergesAt : (a b merged : Option Entry) → Type 0
MergesAt None b merged = merged ≡ b
MergesAt (Some a) None merged = merged ≡ Some a
MergesAt (Some a) (Some b) (Some merged) = IsMerged a b merged
MergesAt (Some a) (Some b) None = ⊥

-- ---- a write

-- the values of a writer that a vector has not read, if it has read the first `seen` events
abbrev pub unread : ℕ → Option Entry → List ValueParts
unread seen None = []
unread seen (Some e) = take (e.count - seen) e.values

-- the values that are shown of a writer
abbrev pub shown : Option Entry → List ValueParts
shown None = []
shown (Some e) = e.values

-- a write of `v` by `id` that has read the vector: for each writer the events that the vector or
-- the object knows are known, and the values that were not read stay; the write is one more event
-- of its writer, and its value stands in front
pub record IsWritten (read : List Counter) (object : List Entry) (id : ℕ) (v : ValueParts)
    (written : List Entry) : Type 0 where
  pub counts : (w : ℕ) → count_of written w
      ≡ max (count_for read w) (count_of object w) + (if w == id then 1 else 0)
  pub values : (w : ℕ) → shown (entry_of written w) ≡ (if w == id then v ∷ [] else [])
      ++ unread (count_for read w) (entry_of object w)

-- ---- equal clocks

-- a writer, the number of its events, and of its values
pub record Shape : Type 0 where
  pub id : ℕ
  pub count : ℕ
  pub shown : ℕ

abbrev pub shape_of : Entry → Shape
shape_of e = record { id = e.id; count = e.count; shown = length e.values }

abbrev pub shapes : List Entry → List Shape
shapes es = map shape_of es
