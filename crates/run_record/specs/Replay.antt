-- What private functions say of a world in which the entries of journals are made again, one after
-- the other.
use Rattle.std.specs.Prelude.{ℕ, ◌≡◌, ◌+◌, ◌<◌, List, length, map, take, slice_get, slice_index, Option, Some, None, Vec}
use Rattle.std.specs.declared.alloc.Global.{Global}
use Rattle.meta_store.specs.Context.{Reading}
use Rattle.node_events.specs.declared.event.NodeEvent.{NodeEvent}
use Rattle.node_journal.specs.declared.entry.Entry.{Entry}
use Rattle.node_journal.specs.declared.receipt.Receipt.{Receipt}
use Rattle.node_journal.specs.Closed.{ClosedNode}
use Rattle.run_record.specs.Giving.{IsHandedOut}
use Rattle.run_record.specs.Journals.{entry_at, journal_of}
use Rattle.run_record.specs.Passing.{AreNextPlaces}
use Rattle.world_core.specs.declared.answer.Answer.{Answer}
use Rattle.world_core.specs.declared.event.Event.{Event}
use Rattle.world_core.specs.declared.fault.WorldFault.{WorldFault}
use Rattle.world_core.specs.declared.fault.WorldFault.TheVariants as OfWorld
use Rattle.world_core.specs.Events.{Step, node_of_event}
use Rattle.world_core.specs.Numbers.{frames_at, numbered}
use Rattle.world_core.specs.Refusal.{HasNoLifeLeft, IsFrameAsJunk, NamesNoFrame, NamesNoImage, NamesNoNode, NamesNoRead, doing_in}
use Rattle.world_core.specs.World.{World, deeds_in}
use Rattle.run_record.specs.declared.fault.RecordFault.{RecordFault}
use Rattle.run_record.specs.declared.fault.RecordFault.TheVariants.{StrangeReceipt, Unequal, Memory}
use Rattle.run_record.specs.declared.replay.Mark.{Mark}
use Rattle.run_record.specs.declared.replay.Replay.{Replay}
use Rattle.run_record.specs.Record.{IsOfARun, IsStrange, IsUnequal, deed}

-- the world's numbers of what an entry gave
pub record IsMark (w : World) (e : Entry) (mark : Mark) : Type 0 where
  pub frames : (k : ℕ) (frame : List ℕ) → slice_get e.outbox k ≡ Some frame
      → numbered w.frames (mark.first + k) ≡ Some frame
  pub read : (c : Reading) → IsHandedOut c e.reply
      → (read : ℕ) × ((mark.read ≡ Some read) × (numbered w.contexts read ≡ Some c))

abbrev pub mark_in : Option (Vec Mark Global) → ℕ → Option Mark
mark_in None q = None
mark_in (Some row) q = slice_get row.items q

abbrev pub mark_at : List (Vec Mark Global) → ℕ → ℕ → Option Mark
mark_at rows m q = mark_in (slice_get rows m) q

-- each entry that was made has its mark
abbrev pub AreMarks : List ClosedNode → World → List ℕ → List (Vec Mark Global) → Type 0
AreMarks closed w next rows = (m q : ℕ) (e : Entry) → q < slice_index next m
    → entry_at closed m q ≡ Some e
    → (mark : Mark) × ((mark_at rows m q ≡ Some mark) × IsMark w e mark)

-- what the world accepted of each node are the entries that were made
abbrev pub HoldsSoFar : List ClosedNode → World → List ℕ → Type 0
HoldsSoFar closed w next = (n : ℕ) → n < length closed
    → deeds_in w n ≡ map deed (take (slice_index next n) (journal_of closed n))

pub record IsReplayOf (closed : List ClosedNode) (w : World) (next : List ℕ)
    (rows : List (Vec Mark Global)) : Type 0 where
  pub run : IsOfARun (length closed) w
  pub nodes : length w.nodes ≡ length closed
  pub places : AreNextPlaces closed next
  pub holds : HoldsSoFar closed w next
  pub number : length rows ≡ length closed
  pub lengths : (m : ℕ) (row : Vec Mark Global) → slice_get rows m ≡ Some row
      → length row.items ≡ slice_index next m
  pub marks : AreMarks closed w next rows

abbrev pub IsReplay : List ClosedNode → Replay → Type 0
IsReplay closed r = IsReplayOf closed r.world r.next.items r.marks.items

-- the event is this step of the node, and what it names is there
pub record IsEventOf (w : World) (n : ℕ) (step : NodeEvent) (event : Event) : Type 0 where
  pub node : node_of_event event ≡ n
  pub doing : doing_in w event ≡ Step step
  pub nodes : NamesNoNode w event → ⊥
  pub frame : NamesNoFrame w event → ⊥
  pub read : NamesNoRead w event → ⊥
  pub image : NamesNoImage w event → ⊥
  pub life : HasNoLifeLeft w event → ⊥
  pub no_junk : IsFrameAsJunk event → ⊥

-- the reply and the frames are those of the entry
abbrev pub AsTold : World → Answer → Entry → Type 0
AsTold w answer e = (answer.reply ≡ e.reply) × (frames_at answer.sent w.frames ≡ e.outbox)

-- the mark has the numbers of the answer
abbrev pub IsMarkOf : Answer → Mark → Type 0
IsMarkOf answer mark = (mark.first ≡ answer.sent.first) × (mark.read ≡ answer.read)

-- ---- refusals of a part

abbrev pub RefusesReplay : List ClosedNode → RecordFault → Type 0
RefusesReplay closed (Unequal n) = IsUnequal closed n
RefusesReplay closed Memory = Unit {0}
RefusesReplay closed fault = ⊥

-- memory ran out, or the next entry of the node is unequal
abbrev pub IsRefusal : WorldFault → ℕ → RecordFault → Type 0
IsRefusal OfWorld.Memory n fault = fault ≡ Memory
IsRefusal refused n fault = fault ≡ Unequal n

abbrev pub RefusesReceipts : List ClosedNode → List Receipt → RecordFault → Type 0
RefusesReceipts closed receipts StrangeReceipt = IsStrange closed receipts
RefusesReceipts closed receipts fault = ⊥
