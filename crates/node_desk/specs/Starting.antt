-- How a node is started.
use Rattle.std.specs.Prelude.{◌≡◌, ◌≤◌, ◌+◌, ◌⊎◌, ℕ, nat_le, nat_lt, Bool, false, true, ◌||◌, List, [], ◌∷◌, replicate, Option, Some, None}
use Rattle.meta_types.specs.First.{first_that_applies}
use Rattle.meta_store.specs.Table.{Table}
use Rattle.node_core.specs.Node.{NodeParts}
use Rattle.node_file.specs.File.{file_state}
use Rattle.node_file.specs.View.{FileView}
use Rattle.node_readers.specs.Views.{SeatView}
use Rattle.node_call.specs.declared.fault.LockFault.{LockFault}
use Rattle.node_call.specs.declared.fault.LockFault.TheVariants.{BadLimit, NoSeat, Memory}
use Rattle.node_desk.specs.declared.starting.Capacity.{Capacity}
use Rattle.node_desk.specs.Desk.{DeskView, most_seats}

-- the most entries of a journal
abbrev pub most_journal : ℕ
most_journal = 1048576

-- the first that applies: the journal's limit is out of range, too many seats are asked for
abbrev pub refusal_of_start : Capacity → Option LockFault
refusal_of_start c = first_that_applies (
    (nat_lt c.journal 1 || nat_lt most_journal c.journal, BadLimit)
    ∷ (nat_lt most_seats c.writers || nat_lt most_seats c.readers, NoSeat)
    ∷ [])

-- memory ran out, or it is the refusal of this capacity
abbrev pub RefusesStarting : Capacity → LockFault → Type 0
RefusesStarting c fault = (fault ≡ Memory) ⊎ (refusal_of_start c ≡ Some fault)

-- it is the file of the node in its life, which goes on, and holds the table
pub record IsFileOf {D : Type 0} (content : D → List ℕ) (number incarnation : ℕ) (held : Table)
    (file : FileView D) : Type 0 where
  pub node : file.node ≡ number
  pub life : file.life ≡ incarnation
  pub lives : 1 ≤ incarnation
  pub served : file.is_served ≡ true
  pub going : file.is_stopped ≡ false
  pub table : (file_state (content file.device)).contents.table ≡ held

-- `count` seats, each of which counted no call yet
abbrev pub AreNewWriters : ℕ → List ℕ → Type 0
AreNewWriters count seats = seats ≡ replicate count 0

-- it was shown nothing yet, and has learnt nothing
abbrev pub new_seat : SeatView
new_seat = record { shown = []; learnt = [] }

-- `count` seats, each of which was shown nothing yet
abbrev pub AreNewReaders : ℕ → List SeatView → Type 0
AreNewReaders count seats = seats ≡ replicate count new_seat

-- a new life of the node, with nothing in its journal and nothing published
abbrev pub new_desk : {D : Type 0} → NodeParts → FileView D → Capacity → DeskView D
new_desk state file c = record {
  base = state;
  state = state;
  journal = [];
  list = [];
  file = file;
  out = c.writers;
  given_up = 0;
  limit = c.journal;
  stopped = false;
}
