-- What is known of the inbox at one moment of a call. `Held n fact` is of the queue: at one moment
-- of the call it held n parcels, about which the fact was learned.
use Rattle.std.specs.Prelude.{◌≡◌, ℕ, List, ◌++◌}
use Rattle.crossbeam_queue.specs.Fifo.{Held}
use Rattle.inbox.specs.declared.parcel.Parcel.{Parcel}
use Rattle.inbox.specs.Parcels.{parcels_of}
use Rattle.inbox.specs.Views.{PutView, TakeView}
use Rattle.inbox.specs.Balance.{MayBeLeft}

-- what had been taken by then, whatever that was, and then these parcels have of this sender what
-- it put, in its order
abbrev pub HasPuts : ℕ → List Parcel → List Parcel → Type 0
HasPuts from put parcels = (taken : List Parcel) × (parcels_of from (taken ++ parcels) ≡ put)

-- an inbox of this room was full: it held `room` parcels, which is all that a sender can know
abbrev pub WasFull : ℕ → PutView → Type 0
WasFull room v = Held room (HasPuts v.from v.put)

-- the inbox was empty: it held nothing, so all that came back had been taken
abbrev pub WasEmpty : TakeView → Type 0
WasEmpty v = Held 0 (MayBeLeft v)
