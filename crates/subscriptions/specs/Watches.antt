-- Who watches a node. Watches are numbered from 1.
use Rattle.std.specs.Prelude.{◌≡◌, ℕ, ◌-◌, nat_eq, nat_le, nat_lt, Bool, ◌||◌, List, [], ◌∷◌, length, slice_get, slice_set, Option, None, Some, is_none, if◌then◌else◌}
use Rattle.std.specs.List.{filter}
use Rattle.meta_types.specs.First.{first_that_applies}
use Rattle.meta_types.specs.Name.{Key}
use Rattle.subscriptions.specs.Watching.{Watching, emptied, greatest_capacity, hears}
use Rattle.subscriptions.specs.declared.fault.WatchFault.{WatchFault}
use Rattle.subscriptions.specs.declared.fault.WatchFault.TheVariants.{BadWatch, NoSuchWatch}
use Rattle.subscriptions.specs.declared.watches.HandedOut.{HandedOut}

-- the most watches of a node
abbrev pub most_watches : ℕ
most_watches = 16

-- the item of that number, from 1, if there is one
abbrev pub at_number : {A : Type 0} → List A → ℕ → Option A
at_number xs number = if nat_eq number 0 then None else slice_get xs (number - 1)

-- how many of them hear the key
abbrev pub hearing_count : Key → List Watching → ℕ
hearing_count key watches = length (filter (λ w. hears w key) watches)

-- ---- one more watch

-- there is room for no change, or for too many
abbrev pub is_no_capacity : ℕ → Bool
is_no_capacity capacity = nat_eq capacity 0 || nat_lt greatest_capacity capacity

abbrev pub refusal_of_watch : ℕ → List Watching → Option WatchFault
refusal_of_watch capacity watches =
    let has_all = nat_le most_watches (length watches) in
    first_that_applies ((is_no_capacity capacity || has_all, BadWatch) ∷ [])

-- ---- a watch hands out what it has noted

abbrev pub with_emptied : Option Watching → ℕ → List Watching → List Watching
with_emptied None number watches = watches
with_emptied (Some w) number watches = slice_set watches (number - 1) (emptied w)

abbrev pub hand_out : ℕ → List Watching → List Watching
hand_out number watches = with_emptied (at_number watches number) number watches

-- these are the changes that the watch holds, and how many it has missed
abbrev pub AreChangesOf : Option Watching → HandedOut → Type 0
AreChangesOf None out = ⊥
AreChangesOf (Some w) out = (out.missed ≡ w.missed) × (out.changes.items ≡ w.changes)

abbrev pub refusal_of_changes : ℕ → List Watching → Option WatchFault
refusal_of_changes number watches =
    first_that_applies ((is_none (at_number watches number), NoSuchWatch) ∷ [])
