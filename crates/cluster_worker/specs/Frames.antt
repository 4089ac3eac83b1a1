-- What becomes of frames: of those that the calls of a node send, and of those that it takes.
use Rattle.std.specs.Prelude.{◌≡◌, ◌⊎◌, ◌+◌, ℕ, min, nat_lt, true, if◌then◌else◌, List, [], ◌∷◌, length, map, take, drop, slice_get, slice_set, Option, Some, None}
use Rattle.std.specs.Int.{from_be_bytes, w16}
use Rattle.std.specs.List.{flat_map}
use mathlib.Core.List.{Sublist}
use Rattle.node_events.specs.declared.event.NodeEvent.{NodeEvent}
use Rattle.node_events.specs.declared.event.NodeEvent.TheVariants as events
use Rattle.node_journal.specs.declared.receipt.Receipt.{Receipt}
use Rattle.inbox.specs.Moments.{WasEmpty, WasFull}
use Rattle.inbox.specs.Views.{InboxView, PutView, TakeView, with_put, with_taken}
use Rattle.cluster_worker.specs.declared.passes.Passes.{Passes}

-- ---- those that are sent

-- the number of the addressee that a frame names, in its bytes 6 and 7; none if it is too short
abbrev pub addressee_of : List ℕ → Option ℕ
addressee_of frame =
    if nat_lt (length frame) 8 then None else Some (from_be_bytes w16 (take 2 (drop 6 frame)))

-- the frame is put by the pass to its addressee; the other passes are as before
pub record IsPut (old : List PutView) (frame : List ℕ) (new : List PutView) : Type 0 where
  pub node : ℕ
  pub named : addressee_of frame ≡ Some node
  pub pass : PutView
  pub there : slice_get old node ≡ Some pass
  pub puts : new ≡ slice_set old node (with_put pass frame)

-- the frame names an addressee, and its inbox was closed or full
pub record FindsNoRoom (inboxes : List InboxView) (old : List PutView) (frame : List ℕ)
    : Type 0 where
  pub node : ℕ
  pub named : addressee_of frame ≡ Some node
  pub inbox : InboxView
  pub its : slice_get inboxes node ≡ Some inbox
  pub pass : PutView
  pub there : slice_get old node ≡ Some pass
  pub cause : (inbox.closed ≡ true) ⊎ WasFull inbox.room pass

-- there is no pass to an addressee that the frame would name
abbrev pub HasNoAddressee : List PutView → List ℕ → Type 0
HasNoAddressee old frame = (node : ℕ) → addressee_of frame ≡ Some node → slice_get old node ≡ None

-- why a frame is lost
abbrev pub IsLost : List InboxView → List PutView → List ℕ → Type 0
IsLost inboxes old frame = HasNoAddressee old frame ⊎ FindsNoRoom inboxes old frame

-- each of these frames in turn is put by the pass to its addressee, or is one of so many that are
-- lost
abbrev pub ArePutOrLost : List InboxView → List PutView → List (List ℕ) → ℕ → List PutView → Type 0
ArePutOrLost inboxes old [] lost new = (lost ≡ 0) × (new ≡ old)
ArePutOrLost inboxes old (frame ∷ later) lost new =
    ((between : List PutView) × IsPut old frame between
    × ArePutOrLost inboxes between later lost new)
    ⊎ ((fewer : ℕ) × (lost ≡ fewer + 1) × IsLost inboxes old frame
    × ArePutOrLost inboxes old later fewer new)

-- ---- those that are taken

-- what the pass to take does for a call: it takes the frame of a `Take`; for any other it stays as
-- it was, and time goes on only if the inbox was empty
abbrev pub TakesFor : NodeEvent → TakeView → TakeView → Type 0
TakesFor (events.Take frame word) old new =
    (from : ℕ) × (new ≡ with_taken old (record { from = from; frame = frame }))
TakesFor (events.Tick word) old new = (new ≡ old) × WasEmpty old
TakesFor event old new = new ≡ old

-- what it does for these calls, in their order
abbrev pub TakesForAll : List NodeEvent → TakeView → TakeView → Type 0
TakesForAll [] old new = new ≡ old
TakesForAll (event ∷ later) old new =
    (between : TakeView) × TakesFor event old between × TakesForAll later between new

-- ---- both

-- the frames that the calls of these receipts sent, in order
abbrev pub outboxes_of : List Receipt → List (List ℕ)
outboxes_of receipts = flat_map (λ r. r.entry.outbox) receipts

-- these calls were asked for, one after another, and these receipts are of some of them, in order:
-- the pass to take took the frame of each `Take` and no other, and of the frames that the receipts
-- have so many are lost, while each other was put
pub record Conveys (inboxes : List InboxView) (asked : List NodeEvent) (receipts : List Receipt)
    (lost : ℕ) (before after : Passes) : Type 0 where
  pub given : Sublist (map (λ r. r.entry.event) receipts) asked
  pub takes : TakesForAll asked before.takes after.takes
  pub puts : ArePutOrLost inboxes before.puts.items (outboxes_of receipts) lost after.puts.items

-- a count that stays at its greatest value
abbrev pub up_to_most : ℕ → ℕ
up_to_most n = min n 18446744073709551615
