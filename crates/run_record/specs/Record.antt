-- A world that holds what many journals tell, or why there is none.
use Rattle.std.specs.Prelude.{ℕ, ◌≡◌, ◌<◌, List, [], length, map, slice_get, All, Option, Some, None, Result, Ok}
use Rattle.meta_store.specs.Table.{object_at}
use Rattle.meta_types.specs.Name.{Key}
use Rattle.node_core.specs.Node.{NodeParts, opening}
use Rattle.node_core.specs.Run.{IsRun}
use Rattle.node_core.specs.declared.state.Stepped.{Stepped}
use Rattle.node_events.specs.declared.event.NodeEvent.TheVariants.{PutOver}
use Rattle.node_journal.specs.declared.entry.Entry.{Entry}
use Rattle.node_journal.specs.declared.receipt.Receipt.{Receipt}
use Rattle.node_journal.specs.Closed.{AreWhole, ClosedNode, EndsWithTable}
use Rattle.node_journal.specs.Entry.{step_of, stepped_of}
use Rattle.run_record.specs.Journals.{entry_at, journal_of, last_table}
use Rattle.run_record.specs.Refusal.{IsStuck, IsUnsent, NoneIsStuck, NoneIsUnsent}
use Rattle.world_core.specs.declared.answer.Accepted.{Accepted}
use Rattle.world_core.specs.declared.answer.Answer.{Answer}
use Rattle.world_core.specs.declared.event.Event.{Event}
use Rattle.world_core.specs.declared.event.Event.TheVariants as events
use Rattle.world_core.specs.declared.fault.WorldFault.{WorldFault}
use Rattle.world_core.specs.Events.{Doing, Step}
use Rattle.world_core.specs.Knowledge.{OfAllTold, ShowsKnown}
use Rattle.world_core.specs.Outcome.{Outcomes}
use Rattle.world_core.specs.Refusal.{table_at}
use Rattle.world_core.specs.World.{World, deeds_in, new_world}
use Rattle.run_record.specs.declared.fault.RecordFault.{RecordFault}
use Rattle.run_record.specs.declared.fault.RecordFault.TheVariants.{Unsent, Stuck, Unequal, StrangeReceipt, Memory}

-- ---- what a world holds

abbrev pub event_of : Accepted → Event
event_of a = a.event

abbrev pub outcome_of : Accepted → Result Answer WorldFault
outcome_of a = Ok a.answer

-- it is what a run of accepted events makes of `count` new nodes
abbrev pub IsOfARun : ℕ → World → Type 0
IsOfARun count w =
    Outcomes (new_world count) (map event_of w.accepted) (map outcome_of w.accepted) w

-- an entry as a deed of its node
abbrev pub deed : Entry → Doing × Stepped
deed e = (Step e.event, stepped_of e)

-- what it accepted of each node, with what that gave, is the node's whole journal
abbrev pub HoldsJournals : List ClosedNode → World → Type 0
HoldsJournals closed w =
    (n : ℕ) → n < length closed → deeds_in w n ≡ map deed (journal_of closed n)

-- each node holds what it held at the end
abbrev pub HoldsTables : List ClosedNode → World → Type 0
HoldsTables closed w = (n : ℕ) → n < length closed → table_at w n ≡ last_table closed n

-- what each node held at the end shows what it knows, by the one history that all journals tell
abbrev pub ShowWhatIsKnown : List ClosedNode → World → Type 0
ShowWhatIsKnown closed w = OfAllTold w (λ t. (n : ℕ) (key : Key) → n < length closed
    → ShowsKnown t.history n key (object_at (last_table closed n) key))

-- ---- 62: a journal is no run of a node that ends with its table

pub record RanAsTold (closed : List ClosedNode) (n : ℕ) : Type 0 where
  pub end : NodeParts
  pub ran : IsRun (opening n 1 []) (map step_of (journal_of closed n)) end
  pub table : end.table ≡ last_table closed n

abbrev pub AllRanAsTold : List ClosedNode → Type 0
AllRanAsTold closed = (n : ℕ) → n < length closed → RanAsTold closed n

pub record IsUnequal (closed : List ClosedNode) (n : ℕ) : Type 0 where
  pub node : n < length closed
  pub otherwise : RanAsTold closed n → ⊥

-- it never comes of whole journals each of which is a run of its node that ends with its table, as
-- those are that are left where nodes are closed
abbrev pub WhatIsClosedIsEqual : Type 0
WhatIsClosedIsEqual = (closed : List ClosedNode) (n : ℕ) → AreWhole closed
    → All EndsWithTable closed → IsUnequal closed n → ⊥

-- ---- 63: a receipt is of no entry

abbrev pub IsKept : List ClosedNode → Receipt → Type 0
IsKept closed r = entry_at closed r.node r.place ≡ Some r.entry

pub record IsStrange (closed : List ClosedNode) (receipts : List Receipt) : Type 0 where
  pub at : ℕ
  pub receipt : Receipt
  pub there : slice_get receipts at ≡ Some receipt
  pub strange : IsKept closed receipt → ⊥

-- ---- the refusals, the first that applies

abbrev pub Refuses : List ClosedNode → List Receipt → RecordFault → Type 0
Refuses closed receipts (Unsent at) = IsUnsent closed at.node at.place
Refuses closed receipts (Stuck places) = NoneIsUnsent closed × IsStuck closed places.items
Refuses closed receipts (Unequal n) =
    NoneIsUnsent closed × (NoneIsStuck closed × IsUnequal closed n)
Refuses closed receipts StrangeReceipt = NoneIsUnsent closed × (NoneIsStuck closed
    × (AllRanAsTold closed × IsStrange closed receipts))
Refuses closed receipts Memory = Unit {0}

-- ---- journals that came of a run have no cause

-- a run of accepted events made this world, and the journals and tables are its nodes'
pub record AreOfARun (closed : List ClosedNode) : Type 0 where
  pub world : World
  pub run : IsOfARun (length closed) world
  pub journals : HoldsJournals closed world
  pub tables : HoldsTables closed world

-- a node writes over all that is shown
abbrev pub IsPutOver : Event → Type 0
IsPutOver (events.Step n (PutOver key value)) = Unit {0}
IsPutOver event = ⊥

-- the number of the read that a write names
abbrev pub read_named : Event → Option ℕ
read_named (events.Put n key value read) = Some read
read_named event = None

-- a `PutOver` made the read of this number, so no reply hands its context out
pub record IsReadOfPutOver (w : World) (read : ℕ) : Type 0 where
  pub at : ℕ
  pub by : Accepted
  pub there : slice_get w.accepted at ≡ Some by
  pub put_over : IsPutOver by.event
  pub number : by.answer.read ≡ Some read

-- no write names the read of a `PutOver`
abbrev pub NamesNoPutOver : World → Type 0
NamesNoPutOver w =
    All (λ a. (read : ℕ) → read_named a.event ≡ Some read → IsReadOfPutOver w read → ⊥) w.accepted

-- 60, 61 and 62 have no cause; and if each receipt is of its entry, only want of memory refuses
-- them
pub record HaveNoCause (closed : List ClosedNode) : Type 0 where
  pub sent : NoneIsUnsent closed
  pub unstuck : NoneIsStuck closed
  pub ran : AllRanAsTold closed
  pub memory_alone : (receipts : List Receipt) (fault : RecordFault)
      → All (IsKept closed) receipts → Refuses closed receipts fault → fault ≡ Memory

-- whole journals of a run of a world, in which no write names the read of a `PutOver`, are refused
-- for want of memory alone, if each receipt is of its entry
abbrev pub ARunHasNoCause : Type 0
ARunHasNoCause = (closed : List ClosedNode) → AreWhole closed → (told : AreOfARun closed)
    → NamesNoPutOver told.world → HaveNoCause closed
