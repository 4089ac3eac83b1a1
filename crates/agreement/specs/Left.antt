-- What is left of writes under a key at a place of a history: each set from which a node may still
-- learn them. Here `before` is what happened up to the place, and `after` is what happens from then
-- on. The rule is our own.
use Rattle.std.specs.Prelude.{◌≡◌, ◌≢◌, ℕ, ◌<◌, ◌≤◌, List, [], ◌∷◌, length, map, Some, true, false, ◌⊎◌}
use Rattle.meta_types.specs.Name.{Key}
use Rattle.meta_types.specs.Value.{ValueParts}
use Rattle.dvvset.specs.Object.{Entry}
use Rattle.dvvset.specs.Clock.{values_of}
use Rattle.past_model.specs.declared.happening.Happening.{Happening}
use Rattle.past_model.specs.declared.happening.Happening.TheVariants.{Wrote, Got, Restarted}
use Rattle.past_model.specs.Sets.{Places}
use Rattle.past_model.specs.Past.{Write, In, past, writes, known, seen, load, image}
use Rattle.past_model.specs.Shown.{was_read, is_sibling}

-- it is one of the happenings
abbrev pub IsAmong : Happening → List Happening → Type 0
IsAmong h [] = ⊥
IsAmong h (g ∷ gs) = (h ≡ g) ⊎ IsAmong h gs

-- the number of a node's newest image
abbrev pub newest_image : List Happening → ℕ → ℕ
newest_image hs n = (past hs).last n

-- what a node's next image starts from
abbrev pub standing : List Happening → ℕ → Key → Places
standing hs n k = (past hs).standing n k

-- ---- what is left

-- a property holds of all that is left: of what each node knows, of each image from which a node
-- restarts later, and of each object that was sent before and is got later
pub record OfAllLeft (P : Places → Type 0) (before after : List Happening) (k : Key) : Type 0 where
  pub nodes : (n : ℕ) → P (known before n k)
  pub images : (n j : ℕ) → IsAmong (Restarted n j) after → j ≤ newest_image before n
      → P (image before n j k)
  pub objects : (n i : ℕ) → IsAmong (Got n i) after → i < length before → P (load before i k)

-- it holds of each context that was read before and is used later
abbrev pub OfContextsLeft :
    (P : Places → Type 0) (before after : List Happening) (k : Key) → Type 0
OfContextsLeft P before after k =
    (n r : ℕ) (v : ValueParts) → IsAmong (Wrote n k v (Some r)) after → r < length before
    → P (seen before r k)

-- it holds of what a node's images start from, if the node makes one later and restarts from it
abbrev pub OfStandingLeft :
    (P : Places → Type 0) (before after : List Happening) (k : Key) → Type 0
OfStandingLeft P before after k =
    (n j : ℕ) → IsAmong (Restarted n j) after → newest_image before n < j
    → P (standing before n k)

-- ---- forgotten

-- the places are of happenings of the list
abbrev pub ArePlacesOf : List Happening → Places → Type 0
ArePlacesOf hs W = (p : ℕ) → W p ≡ true → p < length hs

-- the set has none of these
abbrev pub HasNone : Places → Places → Type 0
HasNone W S = (p : ℕ) → W p ≡ true → S p ≡ false

-- none of these writes is in anything that is left, nor in a context that was read before and is
-- used later
pub record AreLeftNowhere (W : Places) (before after : List Happening) (k : Key) : Type 0 where
  pub places : ArePlacesOf before W
  pub left : OfAllLeft (HasNone W) before after k
  pub contexts : OfContextsLeft (HasNone W) before after k

-- ---- overwritten

-- if the set has the write at the place, it also has a write that had read it
abbrev pub HasOverwritten : List Write → ℕ → Places → Type 0
HasOverwritten ws p S = S p ≡ true → was_read ws S p ≡ true

-- the write at the place is overwritten in all that is left, and in what later images start from
pub record IsLeftOverwritten (before after : List Happening) (k : Key) (p : ℕ) : Type 0 where
  pub place : p < length before
  pub left : OfAllLeft (HasOverwritten (writes before) p) before after k
  pub standing : OfStandingLeft (HasOverwritten (writes before) p) before after k

-- the node shows the write: it is a sibling of what the node knows
abbrev pub IsShown : List Happening → ℕ → Key → Write → Type 0
IsShown hs n k w = In w (writes hs) × (is_sibling (writes hs) (known hs n k) w ≡ true)

-- it shows the write at the place
abbrev pub ShowsWriteAt : List Happening → ℕ → Key → ℕ → Type 0
ShowsWriteAt hs n k p = (w : Write) × ((w.place ≡ p) × IsShown hs n k w)

-- the values of the object are those of writes at other places
abbrev pub ShowsOthers : ℕ → List Entry → Type 0
ShowsOthers p object = (shown : List Write) × ((values_of object ≡ map (λ w. w.value) shown)
    × ((w : Write) → In w shown → w.place ≢ p))
