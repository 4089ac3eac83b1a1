-- Once all passes came back, all that was put is here, and nothing else.
use Rattle.std.specs.Prelude.{◌≡◌, ◌<◌, ℕ, Bool, List, ◌∷◌, ◌++◌, length, sum_by, count_by}
use Rattle.inbox.specs.declared.parcel.Parcel.{Parcel}
use Rattle.inbox.specs.Balance.{MayBeLeft}
use Rattle.inbox.specs.Parcels.{parcels_of}
use Rattle.inbox.specs.Views.{TakeView}

-- how many parcels pass the test, of those that were put by the passes that came back
abbrev pub put_count : (Parcel → Bool) → List (ℕ × List Parcel) → ℕ
put_count test back = sum_by (λ (b : ℕ × List Parcel). count_by test b.1) back

-- the pass of this sender came back, and this was put by it
pub record CameBack (back : List (ℕ × List Parcel)) (p : ℕ) (put : List Parcel) : Type 0 where
  pub before : List (ℕ × List Parcel)
  pub after : List (ℕ × List Parcel)
  pub there : back ≡ before ++ (p, put) ∷ after

-- what was taken, and then what is left, has each parcel as often as it was put: whatever one
-- looks for, as many are found. And of each sender it has what was put, in its order
pub record IsAllHere (v : TakeView) (left : List Parcel) : Type 0 where
  pub as_often : (test : Parcel → Bool)
      → count_by test (v.taken ++ left) ≡ put_count test v.back
  pub in_order : (p : ℕ) → p < v.made
      → (put : List Parcel) × (CameBack v.back p put × (parcels_of p (v.taken ++ left) ≡ put))

-- once as many passes came back as were given
abbrev pub AllIsHere : Type 0
AllIsHere = (v : TakeView) (left : List Parcel) → MayBeLeft v left → length v.back ≡ v.made
    → IsAllHere v left
