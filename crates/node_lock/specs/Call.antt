-- What is known of a call of a node through its lock.
use Rattle.std.specs.Prelude.{◌≡◌, ◌≢◌, ◌+◌, ◌<◌, ℕ, List, [], None, All, length, Result, MatchResult}
use Rattle.meta_store.specs.Table.{Table}
use Rattle.node_events.specs.Event.{stored_key}
use Rattle.node_events.specs.declared.event.NodeEvent.{NodeEvent}
use Rattle.node_events.specs.declared.fault.StepFault.{StepFault}
use Rattle.node_events.specs.declared.fault.StepFault.TheVariants as OfStep
use Rattle.node_core.specs.Node.{NodeParts}
use Rattle.node_core.specs.Step.{CanComeOf, IsNodeStep}
use Rattle.node_file.specs.Batch.{most_batch}
use Rattle.node_journal.specs.Closed.{ClosedNode}
use Rattle.node_journal.specs.declared.receipt.Receipt.{Receipt}
use Rattle.node_journal.specs.Entry.{stepped_of}
use Rattle.node_readers.specs.Published.{Published, with_all}
use Rattle.node_readers.specs.Views.{SeatView}
use Rattle.node_call.specs.declared.fault.LockFault.{LockFault}
use Rattle.node_call.specs.declared.fault.LockFault.TheVariants.{Step, Device, FileFull, Stopped, JournalFull, NoSeat, SeatsMissing, BadLimit, Memory}
use Rattle.node_desk.specs.Closing.{IsWithin, RefusesClosing}
use Rattle.node_call.specs.Acknowledged.{Acknowledged}
use Rattle.node_call.specs.declared.batch.BatchRefusal.{BatchRefusal}
use Rattle.node_call.specs.declared.batch.BatchRefusal.TheVariants as refusals
use Rattle.node_call.specs.declared.write.Write.{Write}
use Rattle.node_call.specs.Batch.{IsBatch, IsRefusedAt}
use Rattle.node_call.specs.Journaled.{IsJournaled}
use Rattle.node_call.specs.Ready.{CanStep}
use Rattle.node_desk.specs.Batching.{CanBatch}
use Rattle.node_desk.specs.Desk.{BeganWith, IsReceiptOf}

-- the event makes the step of the receipt, at its place, from some state that a node comes to after
-- it opened with this table in this life; and what was published up to it makes the table that the
-- step leaves
pub record AnswersCall (node incarnation : ℕ) (opened : Table) (event : NodeEvent)
    (a : Acknowledged) : Type 0 where
  pub old : NodeParts
  pub new : NodeParts
  pub began : BeganWith node incarnation opened old
  pub step : IsNodeStep old event new (stepped_of a.receipt.entry)
  pub receipt : IsReceiptOf old event a.receipt
  pub table : with_all opened a.list ≡ new.table

-- the seat counts the call if it is accepted
abbrev pub Counts : {A : Type 0} → Result A LockFault → ℕ → ℕ → Type 0
Counts result old new = MatchResult result (λ _. new ≡ old + 1) (λ _. new ≡ old)

-- some such state refuses the event with this fault
pub record CanRefuse (node incarnation : ℕ) (opened : Table) (event : NodeEvent) (fault : StepFault)
    : Type 0 where
  pub old : NodeParts
  pub began : BeganWith node incarnation opened old
  pub cause : CanComeOf old event fault

-- some such state can make the step
pub record CanMake (node incarnation : ℕ) (opened : Table) (event : NodeEvent) : Type 0 where
  pub old : NodeParts
  pub began : BeganWith node incarnation opened old
  pub can : CanStep old event

-- it can be made, and it stores the object of a key
abbrev pub CanStore : ℕ → ℕ → Table → NodeEvent → Type 0
CanStore node incarnation opened event =
    CanMake node incarnation opened event × (stored_key event ≢ None)

-- the step is refused; or it can be made, and the journal has no room for it; or it stores what the
-- file has no room for, or at which the device fails; or the node is stopped, or memory runs out.
-- What refuses only a new seat, the closing or the starting of a node, refuses no call
abbrev pub RefusesCall : ℕ → ℕ → Table → NodeEvent → LockFault → Type 0
RefusesCall node incarnation opened event (Step fault) =
    (fault ≢ OfStep.Memory) × CanRefuse node incarnation opened event fault
RefusesCall node incarnation opened event JournalFull = CanMake node incarnation opened event
RefusesCall node incarnation opened event FileFull = CanStore node incarnation opened event
RefusesCall node incarnation opened event Device = CanStore node incarnation opened event
RefusesCall node incarnation opened event NoSeat = ⊥
RefusesCall node incarnation opened event SeatsMissing = ⊥
RefusesCall node incarnation opened event BadLimit = ⊥
RefusesCall node incarnation opened event fault = Unit {0}

-- ---- a batch of writes

-- the writes are made, with these receipts, by some state that a node comes to after it opened with
-- this table in this life; and what was published up to them makes the table that they leave
pub record AnswersBatch (node incarnation : ℕ) (opened : Table) (writes : List Write)
    (receipts : List Receipt) (list : List Published) : Type 0 where
  pub old : NodeParts
  pub new : NodeParts
  pub changes : List Published
  pub began : BeganWith node incarnation opened old
  pub batch : IsBatch old writes receipts changes new
  pub table : with_all opened list ≡ new.table

-- some such state can make the writes
pub record CanMakeAll (node incarnation : ℕ) (opened : Table) (writes : List Write) : Type 0 where
  pub old : NodeParts
  pub began : BeganWith node incarnation opened old
  pub can : CanBatch old writes

-- some such state can make the writes before this place, and then, with some journal, not that one
pub record CanPrevent (node incarnation : ℕ) (opened : Table) (writes : List Write) (place : ℕ)
    (fault : LockFault) : Type 0 where
  pub old : NodeParts
  pub limit : ℕ
  pub count : ℕ
  pub began : BeganWith node incarnation opened old
  pub refused : IsRefusedAt place old writes limit count fault

-- why the write at this place refuses the batch: the file has no room for what they store, or it
-- can't be made
abbrev pub RefusesWriteOfCall : ℕ → ℕ → Table → List Write → ℕ → LockFault → Type 0
RefusesWriteOfCall node incarnation opened writes place FileFull =
    CanMakeAll node incarnation opened writes
RefusesWriteOfCall node incarnation opened writes place fault =
    CanPrevent node incarnation opened writes place fault

-- why a batch is refused: it has too many writes; one of them is refused; or the device fails, the
-- node is stopped, or memory runs out
abbrev pub RefusesBatchCall : ℕ → ℕ → Table → List Write → BatchRefusal → Type 0
RefusesBatchCall node incarnation opened writes refusals.TooMany = most_batch < length writes
RefusesBatchCall node incarnation opened writes (refusals.Write place fault) =
    RefusesWriteOfCall node incarnation opened writes place fault
RefusesBatchCall node incarnation opened writes (refusals.Node Device) =
    CanMakeAll node incarnation opened writes × (writes ≢ [])
RefusesBatchCall node incarnation opened writes (refusals.Node Stopped) = Unit {0}
RefusesBatchCall node incarnation opened writes (refusals.Node Memory) = Unit {0}
RefusesBatchCall node incarnation opened writes (refusals.Node fault) = ⊥

-- ---- when it is closed

-- one list of changes ends with those that the journal made, makes the table out of the opening
-- one, and begins with what each reader was shown and has learnt
pub record EndsList (opened : Table) (c : ClosedNode) (readers : List SeatView) : Type 0 where
  pub list : List Published
  pub end : NodeParts
  pub journaled : IsJournaled c.base end c.journal list
  pub table : end.table ≡ c.table
  pub makes : with_all opened list ≡ c.table
  pub within : All (IsWithin list) readers

-- closing with `given` seats handed in and these readers may be refused with this fault: for some
-- number of seats that are out, and some list of what was published. These stand under the lock, so
-- nobody else knows them: it says of 54 only that fewer than eight seats were handed in, and of 34
-- only that there is a reader that was shown or has learnt something
pub record CanRefuseClosing (given : ℕ) (readers : List SeatView) (fault : LockFault) : Type 0 where
  pub out : ℕ
  pub list : List Published
  pub refuses : RefusesClosing out given list readers fault
