-- An order of all entries, in which each comes after one that gives what it needs. The place of the
-- next entry of each node says how far its journal has been gone through.
use Rattle.std.specs.Prelude.{ℕ, ◌≡◌, ◌+◌, ◌<◌, ◌≤◌, ◌^◌, List, [], ◌∷◌, length, slice_index, slice_set, Option, Some, None}
use Rattle.node_events.specs.declared.event.NodeEvent.{NodeEvent}
use Rattle.node_journal.specs.declared.entry.Entry.{Entry}
use Rattle.node_journal.specs.Closed.{ClosedNode}
use Rattle.run_record.specs.Giving.{SuppliesAt, Needs}
use Rattle.run_record.specs.Journals.{entry_at, journal_of}
use Rattle.run_record.specs.declared.giving.Giver.{Giver}
use Rattle.run_record.specs.declared.order.Turn.{Turn}

-- an entry that was gone through gives what the event needs
pub record IsPassedGiver (closed : List ClosedNode) (next : List ℕ) (event : NodeEvent) (g : Giver)
    : Type 0 where
  pub passed : g.place < slice_index next g.node
  pub entry : Entry
  pub there : entry_at closed g.node g.place ≡ Some entry
  pub gives : SuppliesAt g.at entry event

-- this entry gives what the event needs, if it needs something
abbrev pub IsGivenBy : List ClosedNode → List ℕ → NodeEvent → Option Giver → Type 0
IsGivenBy closed next event None = Needs event → ⊥
IsGivenBy closed next event (Some g) = IsPassedGiver closed next event g

-- the next entry of the turn's node can come: what it needs was gone through
pub record CanComeNext (closed : List ClosedNode) (next : List ℕ) (turn : Turn) : Type 0 where
  pub node : turn.node < length next
  pub entry : Entry
  pub there : entry_at closed turn.node (slice_index next turn.node) ≡ Some entry
  pub given : IsGivenBy closed next entry.event turn.giver
  pub room : slice_index next turn.node + 1 < 2 ^ 64

-- the node goes on by one entry
abbrev pub with_turn : List ℕ → ℕ → List ℕ
with_turn next n = slice_set next n (slice_index next n + 1)

abbrev pub HasEnded : List ClosedNode → List ℕ → ℕ → Type 0
HasEnded closed next n = length (journal_of closed n) ≤ slice_index next n

-- from these places on: whose entry comes next, until all have ended
abbrev pub IsOrderFrom : List ClosedNode → List ℕ → List Turn → Type 0
IsOrderFrom closed next [] = (n : ℕ) → HasEnded closed next n
IsOrderFrom closed next (turn ∷ later) =
    CanComeNext closed next turn × IsOrderFrom closed (with_turn next turn.node) later

-- the places of the first entries
pub record AreFirst (closed : List ClosedNode) (next : List ℕ) : Type 0 where
  pub number : length next ≡ length closed
  pub zero : (n : ℕ) → slice_index next n ≡ 0

-- an order of all entries
pub record IsOrder (closed : List ClosedNode) (order : List Turn) : Type 0 where
  pub first : List ℕ
  pub are_first : AreFirst closed first
  pub goes : IsOrderFrom closed first order
