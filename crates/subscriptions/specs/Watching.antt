-- A watch, which holds the last changes under a full prefix. The rule is our own.
use Rattle.std.specs.Prelude.{ℕ, ◌+◌, ◌-◌, ◌^◌, ◌<◌, ◌≤◌, Bool, List, [], ◌∷◌, ◌++◌, length, drop, min, nat_eq, if◌then◌else◌}
use Rattle.meta_types.specs.Name.{Prefix, Key}
use Rattle.meta_types.specs.Order.{prefix_eq}
use Rattle.subscriptions.specs.declared.change.Change.{Change}

-- the full prefix whose changes it notes, how many it holds at most, those that it holds, oldest
-- first, and how many have left without being taken since the last were taken
pub record Watching : Type 0 where
  pub prefix : Prefix
  pub capacity : ℕ
  pub changes : List Change
  pub missed : ℕ

-- the most changes that a watch may have room for
abbrev pub greatest_capacity : ℕ
greatest_capacity = 1024

-- how many changes there may be room for
abbrev pub IsCapacity : ℕ → Type 0
IsCapacity capacity = (1 ≤ capacity) × (capacity ≤ greatest_capacity)

-- a new watch
abbrev pub empty : Prefix → ℕ → Watching
empty prefix capacity = record { prefix = prefix; capacity = capacity; changes = []; missed = 0 }

-- the key's full prefix is the watch's
abbrev pub hears : Watching → Key → Bool
hears w key = prefix_eq w.prefix key.prefix

-- it holds as many changes as it may
abbrev pub is_full : Watching → Bool
is_full w = nat_eq (length w.changes) w.capacity

-- the oldest leaves and is counted; the count stays at the greatest number of 64 bits
abbrev pub without_oldest : Watching → Watching
without_oldest w = record w { changes = drop 1 w.changes; missed = min (w.missed + 1) (2 ^ 64 - 1) }

-- if there is no room, the oldest change leaves
abbrev pub with_room : Watching → Watching
with_room w = if is_full w then without_oldest w else w

-- it may hold one more
abbrev pub HasRoom : Watching → Type 0
HasRoom w = length w.changes < w.capacity

-- the change comes last
abbrev pub with_last : Change → Watching → Watching
with_last change w = record w { changes = w.changes ++ change ∷ [] }

-- a change of another prefix does nothing
abbrev pub with_change : Change → Watching → Watching
with_change change w = if hears w change.key then with_last change (with_room w) else w

-- nothing is held, and nothing was missed
abbrev pub emptied : Watching → Watching
emptied w = record w { changes = []; missed = 0 }
