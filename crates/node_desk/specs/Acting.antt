-- What a call that makes a step does to a desk.
use Rattle.std.specs.Prelude.{◌≡◌, ◌≢◌, ◌⊎◌, ℕ, Bool, true, false, List, ◌++◌, length, Option, None}
use Rattle.devices.specs.Device.{HasFailed}
use Rattle.meta_types.specs.Name.{Key}
use Rattle.meta_store.specs.Table.{Table}
use Rattle.node_events.specs.declared.event.NodeEvent.{NodeEvent}
use Rattle.node_events.specs.declared.fault.StepFault.TheVariants as OfStep
use Rattle.node_events.specs.declared.reply.Reply.{Reply}
use Rattle.node_core.specs.Growing.{IsKeyChanged}
use Rattle.node_core.specs.Step.{CanComeOf}
use Rattle.node_file.specs.declared.record.Record.{Record}
use Rattle.node_readers.specs.Published.{Published}
use Rattle.node_call.specs.declared.fault.LockFault.{LockFault}
use Rattle.node_call.specs.declared.fault.LockFault.TheVariants.{Step, Device, FileFull, Stopped, JournalFull, Memory}
use Rattle.node_call.specs.Ready.{CanStep, IsFullFor}
use Rattle.node_desk.specs.Desk.{DeskView}
use Rattle.node_call.specs.Journaled.{IsPublishedBy}
use Rattle.node_file.specs.Stored.{IsTooLong}
use Rattle.node_call.specs.Stored.{HasRecordRoom, record_after}

-- the list goes on by what the event published, of what is held then
pub record ListsChange (event : NodeEvent) (reply : Reply) (held : Table) (old new : List Published)
    : Type 0 where
  pub changes : List Published
  pub published : IsPublishedBy event reply held changes
  pub list : new ≡ old ++ changes

-- why what is ready isn't kept: the file has no room for what is to be stored; or the device failed,
-- which stops the node; or memory ran out, which may stop it if something was to be stored or
-- published. It is stopped only if the file has room
abbrev pub RefusesKeeping : ℕ → Option Record → Option Published → ℕ → ℕ → Bool → LockFault → Type 0
RefusesKeeping gate stored change before now stopped FileFull =
    IsTooLong gate stored × (stopped ≡ false)
RefusesKeeping gate stored change before now stopped Device =
    (stored ≢ None) × (HasRecordRoom gate stored × (HasFailed before now × (stopped ≡ true)))
RefusesKeeping gate stored change before now stopped Memory = stopped ≡ true
    → HasRecordRoom gate stored × ((stored ≢ None) ⊎ (change ≢ None))
RefusesKeeping gate stored change before now stopped fault = ⊥

abbrev pub IsFull : {D : Type 0} → DeskView D → Type 0
IsFull old = IsFullFor old.limit (length old.journal) old.state.steps

-- the node can make the step, and its journal has room for the entry
pub record CanKeep {D : Type 0} (old : DeskView D) (event : NodeEvent) : Type 0 where
  pub can : CanStep old.state event
  pub room : IsFull old → ⊥

-- the step stores this in the file
abbrev pub stored_by : {D : Type 0} {old : DeskView D} {event : NodeEvent} → CanKeep old event
    → Option Record
stored_by {event = event} k = record_after event k.can.new.table

-- its file has room for that
abbrev pub HasFileRoom : {D : Type 0} {old : DeskView D} {event : NodeEvent} → CanKeep old event
    → Type 0
HasFileRoom {old = old} k = HasRecordRoom old.file.gate (stored_by k)

-- it stores something, or changes what is held under a key
abbrev pub LeavesSomething : {D : Type 0} {old : DeskView D} {event : NodeEvent}
    → CanKeep old event → Type 0
LeavesSomething {event = event} k =
    (stored_by k ≢ None) ⊎ ((key : Key) × IsKeyChanged event k.can.stepped.reply key)

-- why a call is refused, and whether the node is stopped then: a device that fails while something
-- is stored stops it; memory that runs out may stop it if something is stored or published. Both
-- only if the file has room
abbrev pub Refuses : {D : Type 0} → (D → ℕ) → DeskView D → NodeEvent → LockFault → DeskView D
    → Type 0
Refuses failed old event Stopped new =
    (old.stopped ≡ true) × ((new.stopped ≡ true) × (new.file ≡ old.file))
Refuses failed old event (Step fault) new = (fault ≢ OfStep.Memory)
    × (CanComeOf old.state event fault × (new.stopped ≡ false))
Refuses failed old event JournalFull new =
    CanStep old.state event × (IsFull old × (new.stopped ≡ false))
Refuses failed old event FileFull new = (k : CanKeep old event)
    × (IsTooLong old.file.gate (stored_by k) × (new.stopped ≡ false))
Refuses failed old event Device new =
    (k : CanKeep old event) × ((stored_by k ≢ None) × (HasFileRoom k
    × (HasFailed (failed old.file.device) (failed new.file.device) × (new.stopped ≡ true))))
Refuses failed old event Memory new =
    new.stopped ≡ true → (k : CanKeep old event) × (HasFileRoom k × LeavesSomething k)
Refuses failed old event fault new = ⊥
