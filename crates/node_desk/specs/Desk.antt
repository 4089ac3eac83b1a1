-- What contracts see of what lies under a node's lock.
use Rattle.std.specs.Prelude.{◌≡◌, ◌≢◌, ◌⊎◌, ◌≤◌, ◌-◌, ◌^◌, ℕ, nat_le, Bool, false, List, [], ◌∷◌, map, Option, None}
use Rattle.meta_types.specs.First.{first_that_applies}
use Rattle.meta_store.specs.Table.{Table}
use Rattle.node_core.specs.Growing.{Descends}
use Rattle.node_core.specs.Node.{NodeParts, opening}
use Rattle.node_core.specs.Run.{IsRun}
use Rattle.node_file.specs.View.{FileView}
use Rattle.node_events.specs.declared.event.NodeEvent.{NodeEvent}
use Rattle.node_journal.specs.declared.entry.Entry.{Entry}
use Rattle.node_journal.specs.declared.receipt.Receipt.{Receipt}
use Rattle.node_journal.specs.Entry.{step_of}
use Rattle.node_readers.specs.Published.{Published}
use Rattle.node_call.specs.Stored.{IsStoredOf}
use Rattle.node_call.specs.declared.fault.LockFault.{LockFault}
use Rattle.node_call.specs.declared.fault.LockFault.TheVariants.{NoSeat, Stopped}

-- the state from which the journal began, the state now, and the journal between them; all that was
-- published; the file; how many write seats are out; how many calls were counted by seats that were
-- given up; how many entries the journal may have; whether the node is stopped
pub record DeskView (D : Type 0) : Type 0 where
  pub base : NodeParts
  pub state : NodeParts
  pub journal : List Entry
  pub list : List Published
  pub file : FileView D
  pub out : ℕ
  pub given_up : ℕ
  pub limit : ℕ
  pub stopped : Bool

-- all that the desk is, except its file and whether it is stopped
pub record KeepsAll {D : Type 0} (old new : DeskView D) : Type 0 where
  pub base : new.base ≡ old.base
  pub state : new.state ≡ old.state
  pub journal : new.journal ≡ old.journal
  pub list : new.list ≡ old.list
  pub out : new.out ≡ old.out
  pub given_up : new.given_up ≡ old.given_up
  pub limit : new.limit ≡ old.limit

-- what no call that makes a step changes
pub record KeepsSeats {D : Type 0} (old new : DeskView D) : Type 0 where
  pub base : new.base ≡ old.base
  pub out : new.out ≡ old.out
  pub given_up : new.given_up ≡ old.given_up
  pub limit : new.limit ≡ old.limit

-- a new node in its life, with the table that it opened with, has come to the base
pub record BeganWith (node incarnation : ℕ) (opened : Table) (base : NodeParts) : Type 0 where
  pub entries : List Entry
  pub run : IsRun (opening node incarnation opened) (map step_of entries) base

-- the receipt of a call: of this node, for the event, at the place of its step
pub record IsReceiptOf (old : NodeParts) (event : NodeEvent) (r : Receipt) : Type 0 where
  pub node : r.node ≡ old.node
  pub place : r.place ≡ old.steps
  pub is_event : r.entry.event ≡ event

-- the state is one of the node in its life
pub record IsOfLife (number incarnation : ℕ) (state : NodeParts) : Type 0 where
  pub node : state.node ≡ number
  pub life : state.incarnation ≡ incarnation

-- file and publisher go on, and what the file has is held, with all events that it counts
pub record IsGoing (file_stopped publisher_stopped : Bool) (stored held : Table) : Type 0 where
  pub file : file_stopped ≡ false
  pub publisher : publisher_stopped ≡ false
  pub within : IsStoredOf held stored
  pub known : Descends stored held

-- all except base and journal is as before
pub record KeepsButJournal {D : Type 0} (old new : DeskView D) : Type 0 where
  pub state : new.state ≡ old.state
  pub list : new.list ≡ old.list
  pub file : new.file ≡ old.file
  pub out : new.out ≡ old.out
  pub given_up : new.given_up ≡ old.given_up
  pub limit : new.limit ≡ old.limit
  pub stopped : new.stopped ≡ old.stopped

-- all except the seats that are out, and what was counted by those that were given up
pub record KeepsButSeats {D : Type 0} (old new : DeskView D) : Type 0 where
  pub base : new.base ≡ old.base
  pub state : new.state ≡ old.state
  pub journal : new.journal ≡ old.journal
  pub list : new.list ≡ old.list
  pub file : new.file ≡ old.file
  pub limit : new.limit ≡ old.limit
  pub stopped : new.stopped ≡ old.stopped

-- the most seats of a node for writers, and for readers
abbrev pub most_seats : ℕ
most_seats = 8

-- why a new seat is refused: as many as there may be are out, or the node is stopped
abbrev pub refusal_of_seat : ℕ → Bool → Option LockFault
refusal_of_seat out stopped =
    first_that_applies ((nat_le most_seats out, NoSeat) ∷ (stopped, Stopped) ∷ [])
