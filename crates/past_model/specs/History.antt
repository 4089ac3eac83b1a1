-- Which lists of happenings are histories.
use Rattle.std.specs.Prelude.{◌≡◌, ℕ, ◌<◌, ◌≤◌, List, ◌∷◌, ◌++◌, Some, None, slice_get}
use Rattle.meta_types.specs.Name.{Key}
use Rattle.past_model.specs.declared.happening.Happening.{Happening}
use Rattle.past_model.specs.declared.happening.Happening.TheVariants.{Wrote, Looked, Sent, Got, Kept, Restarted}
use Rattle.past_model.specs.Past.{past}

-- the most restarts of a node: each of its lives has a number of its own
abbrev pub most_restarts : ℕ
most_restarts = 4294967294

-- what a happening names stands before it: an earlier Looked of the same key, an earlier Sent, an
-- image of its node; and a node that restarts has a number left for its next life
abbrev pub Fits : List Happening → Happening → Type 0
Fits before (Wrote n k v None) = Unit {0}
Fits before (Wrote n k v (Some r)) = (m : ℕ) × (slice_get before r ≡ Some (Looked m k))
Fits before (Looked n k) = Unit {0}
Fits before (Sent n k) = Unit {0}
Fits before (Got n i) = (m : ℕ) × ((k : Key) × (slice_get before i ≡ Some (Sent m k)))
Fits before (Kept n k) = Unit {0}
Fits before (Restarted n j) =
    (j ≤ (past before).last n) × ((past before).restarts n < most_restarts)

-- a well-formed history: each happening fits those before it
pub record IsHistory (hs : List Happening) : Type 0 where
  pub fits : (before after : List Happening) (h : Happening) → hs ≡ before ++ h ∷ after
      → Fits before h

-- no restart of the node is among these happenings
abbrev pub NoRestart : ℕ → List Happening → Type 0
NoRestart n hs = (before after : List Happening) (j : ℕ) → hs ≡ before ++ Restarted n j ∷ after → ⊥
