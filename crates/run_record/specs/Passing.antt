-- What private functions say of journals that have been gone through so far.
use Rattle.std.specs.Prelude.{ℕ, ◌≡◌, ◌<◌, ◌≤◌, ◌⊎◌, List, length, slice_index, Some}
use Rattle.node_events.specs.declared.event.NodeEvent.{NodeEvent}
use Rattle.node_journal.specs.declared.entry.Entry.{Entry}
use Rattle.node_journal.specs.Closed.{ClosedNode}
use Rattle.run_record.specs.Giving.{Supplies, Needs}
use Rattle.run_record.specs.Journals.{entry_at, journal_of}
use Rattle.run_record.specs.Order.{HasEnded, CanComeNext}
use Rattle.run_record.specs.Refusal.{IsStuck, Lists, RiseFrom}
use Rattle.run_record.specs.declared.order_fault.Place.{Place}
use Rattle.run_record.specs.declared.walk.Head.{Head}
use Rattle.run_record.specs.declared.walk.Head.TheVariants as OfHead

-- a place for each journal, none past its end
pub record AreNextPlaces (closed : List ClosedNode) (next : List ℕ) : Type 0 where
  pub number : length next ≡ length closed
  pub within : (n : ℕ) → slice_index next n ≤ length (journal_of closed n)

-- no entry that was gone through gives what the event needs
abbrev pub NonePassed : List ClosedNode → List ℕ → NodeEvent → Type 0
NonePassed closed next event = (m q : ℕ) (e : Entry) → q < slice_index next m
    → entry_at closed m q ≡ Some e → Supplies e event → ⊥

-- the next entry of the node is there, and what it needs was not gone through
pub record IsBlocked (closed : List ClosedNode) (next : List ℕ) (n : ℕ) : Type 0 where
  pub entry : Entry
  pub there : entry_at closed n (slice_index next n) ≡ Some entry
  pub needs : Needs entry.event
  pub none : NonePassed closed next entry.event

abbrev pub IsHead : List ClosedNode → List ℕ → ℕ → Head → Type 0
IsHead closed next n OfHead.Ended = HasEnded closed next n
IsHead closed next n OfHead.Blocked = IsBlocked closed next n
IsHead closed next n (OfHead.Ready giver) =
    CanComeNext closed next (record { node = n; giver = giver })

-- of the first `all` nodes, each has ended or is blocked
abbrev pub AllWait : List ClosedNode → List ℕ → ℕ → Type 0
AllWait closed next all =
    (n : ℕ) → n < all → HasEnded closed next n ⊎ IsBlocked closed next n

-- of the first `all` nodes, the places of the next entries of those that haven't ended
pub record AreHeads (closed : List ClosedNode) (next : List ℕ) (all : ℕ) (places : List Place)
    : Type 0 where
  pub rise : RiseFrom 0 places
  pub listed : (n : ℕ) → n < all → slice_index next n < length (journal_of closed n)
      → Lists places n (slice_index next n)
  pub only : (n p : ℕ) → Lists places n p
      → (n < all) × ((p ≡ slice_index next n) × (p < length (journal_of closed n)))

-- if places are stuck, no journal has been gone through past its place
abbrev pub NoneIsPast : List ClosedNode → List ℕ → Type 0
NoneIsPast closed next = (places : List Place) → IsStuck closed places
    → (n r : ℕ) → Lists places n r → slice_index next n ≤ r

-- the places after all entries
pub record AreEnds (closed : List ClosedNode) (ends : List ℕ) : Type 0 where
  pub number : length ends ≡ length closed
  pub behind : (n : ℕ) → slice_index ends n ≡ length (journal_of closed n)
