-- What was put by the passes that came back, against what was taken and what is left.
use Rattle.std.specs.Prelude.{◌≡◌, ◌<◌, ◌≤◌, ℕ, nat_eq, List, [], ◌∷◌, ◌++◌, map}
use Rattle.std.specs.List.{IsDistinct}
use Rattle.inbox.specs.declared.parcel.Parcel.{Parcel}
use Rattle.inbox.specs.Parcels.{parcels_of}
use Rattle.inbox.specs.Views.{TakeView}

-- the senders whose passes came back
abbrev pub senders_of : List (ℕ × List Parcel) → List ℕ
senders_of back = map (λ (b : ℕ × List Parcel). b.0) back

-- of each sender whose pass came back: it was given a pass, and its parcels are what was put by
-- that pass, in its order
abbrev pub HasEach : ℕ → List (ℕ × List Parcel) → List Parcel → Type 0
HasEach made [] all = Unit {0}
HasEach made (b ∷ bs) all = (b.0 < made) × (parcels_of b.0 all ≡ b.1) × HasEach made bs all

-- what was taken, and then what is left, has what each pass that came back had put; no pass came
-- back twice; and it has nothing of a sender that was given no pass
pub record Balances (made : ℕ) (taken : List Parcel) (back : List (ℕ × List Parcel))
    (left : List Parcel) : Type 0 where
  pub each : HasEach made back (taken ++ left)
  pub once : IsDistinct nat_eq (senders_of back)
  pub no_other : (p : ℕ) → made ≤ p → parcels_of p (taken ++ left) ≡ []

-- by what the pass to take knows, these may be left
abbrev pub MayBeLeft : TakeView → List Parcel → Type 0
MayBeLeft v left = Balances v.made v.taken v.back left
