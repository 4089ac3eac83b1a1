-- What clauses see of an inbox and of its passes.
use Rattle.std.specs.Prelude.{ℕ, ◌+◌, Bool, List, [], ◌∷◌, ◌++◌}
use Rattle.atomic_table.specs.Seated.{TableId}
use Rattle.inbox.specs.declared.parcel.Parcel.{Parcel}

-- an inbox: which one it is, how many parcels it has room for, and whether it was closed
pub record InboxView : Type 0 where
  pub line : TableId
  pub room : ℕ
  pub closed : Bool

-- a pass to put: its inbox, the number of its sender, and what was put by it, in order
pub record PutView : Type 0 where
  pub line : TableId
  pub from : ℕ
  pub put : List Parcel

-- the pass to take: its inbox; what was taken by it, in order; how many senders were
-- given a pass; and of each pass that came back its sender, with what was put by it
pub record TakeView : Type 0 where
  pub line : TableId
  pub taken : List Parcel
  pub made : ℕ
  pub back : List (ℕ × List Parcel)

-- once one more frame was put by it
abbrev pub with_put : PutView → List ℕ → PutView
with_put v frame = record v { put = v.put ++ record { from = v.from; frame = frame } ∷ [] }

-- once one more parcel was taken by it
abbrev pub with_taken : TakeView → Parcel → TakeView
with_taken v parcel = record v { taken = v.taken ++ parcel ∷ [] }

-- once one more pass came back to it
abbrev pub with_back : TakeView → PutView → TakeView
with_back v given = record v { back = v.back ++ (given.from, given.put) ∷ [] }

-- once one more sender was given a pass
abbrev pub with_sender : TakeView → TakeView
with_sender v = record v { made = v.made + 1 }
