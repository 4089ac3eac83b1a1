-- The rule that each step at the queue keeps: what each sender put is what was taken of it, and
-- then what the queue holds of it.
use Rattle.std.specs.Prelude.{◌≡◌, ◌<◌, ◌≤◌, ℕ, nat_eq, true, false, List, [], ◌∷◌, ◌++◌}
use Rattle.std.specs.List.{IsDistinct}
use mathlib.Core.Option.{Option, some, none}
use lib.ListN.{get_elem?}
use Rattle.inbox.specs.declared.parcel.Parcel.{Parcel}
use Rattle.inbox.specs.declared.rule.Knowledge.{Knowledge}
use Rattle.inbox.specs.Balance.{Balances, senders_of}
use Rattle.inbox.specs.Parcels.{parcels_of}

-- what the pass of a sender knows: its number, and what was put by it
abbrev pub sender : ℕ → List Parcel → Knowledge
sender from put = record {
  sends = true;
  from = from;
  put = put;
  takes = false;
  taken = [];
  made = 0;
  back = [];
}

-- what the pass to take knows: how many senders were given a pass, what was taken, and what came
-- back
abbrev pub taker : ℕ → List Parcel → List (ℕ × List Parcel) → Knowledge
taker made taken back = record {
  sends = false;
  from = 0;
  put = [];
  takes = true;
  taken = taken;
  made = made;
  back = back;
}

-- a taker knows this, and some parcels are left with which it balances
pub record LeavesBalanced (made : ℕ) (taken : List Parcel) (back : List (ℕ × List Parcel))
    (w : Knowledge) : Type 0 where
  pub knows : w ≡ taker made taken back
  pub left : List Parcel
  pub balances : Balances made taken back left

-- what a pass that came back knows: nothing
abbrev pub nobody : Knowledge
nobody = record {
  sends = false;
  from = 0;
  put = [];
  takes = false;
  taken = [];
  made = 0;
  back = [];
}

-- ---- `seat` says at which place the pass of a sender is, if it is out; `sent` all that it put

-- a sender's pass: it is where its sender has its seat, and knows all that this one put
pub record FitsSender (seat : ℕ → Option ℕ) (sent : ℕ → List Parcel) (place : ℕ) (v : Knowledge)
    : Type 0 where
  pub here : seat v.from ≡ some place
  pub all : v.put ≡ sent v.from

-- of each pass that came back: its sender was given one, has no seat any more, and put just this
abbrev pub AreBack : (ℕ → List Parcel) → (ℕ → Option ℕ) → ℕ → List (ℕ × List Parcel) → Type 0
AreBack sent seat made [] = Unit {0}
AreBack sent seat made (b ∷ bs) =
    (b.0 < made) × (seat b.0 ≡ none) × (b.1 ≡ sent b.0) × AreBack sent seat made bs

-- a sender that was given no pass has no seat, and put nothing
abbrev pub NoneFrom : (ℕ → List Parcel) → (ℕ → Option ℕ) → ℕ → Type 0
NoneFrom sent seat made = (p : ℕ) → made ≤ p → (seat p ≡ none) × (sent p ≡ [])

-- the pass to take: it is the reader's, and knows what was taken and what came back
pub record FitsTaker (reader : ℕ) (seat : ℕ → Option ℕ) (sent : ℕ → List Parcel)
    (got : List Parcel) (place : ℕ) (v : Knowledge) : Type 0 where
  pub here : place ≡ reader
  pub all : v.taken ≡ got
  pub unmade : NoneFrom sent seat v.made
  pub known : AreBack sent seat v.made v.back
  pub once : IsDistinct nat_eq (senders_of v.back)

-- what a pass knows is right, by what may be done with it
abbrev pub FitsRole : ℕ → (ℕ → Option ℕ) → (ℕ → List Parcel) → List Parcel → ℕ → Knowledge
    → Type 0
FitsRole reader seat sent got place v =
    (v.sends ≡ true → FitsSender seat sent place v)
    × (v.takes ≡ true → FitsTaker reader seat sent got place v)

-- the rule: what was taken (`got`) and then what the queue holds has of each sender what it put,
-- and each pass fits
pub record KeepsOrder (items : List Parcel) (views : List Knowledge) : Type 0 where
  pub reader : ℕ
  pub seat : ℕ → Option ℕ
  pub sent : ℕ → List Parcel
  pub got : List Parcel
  pub in_order : (p : ℕ) → parcels_of p (got ++ items) ≡ sent p
  pub fit : (place : ℕ) (v : Knowledge) → get_elem? views place ≡ some v
      → FitsRole reader seat sent got place v
