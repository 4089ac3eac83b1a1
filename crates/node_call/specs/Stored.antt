-- What an event stores in a node's file, what the file is afterwards, and why it isn't stored.
use Rattle.std.specs.Prelude.{◌≡◌, ◌≢◌, ◌⊎◌, ℕ, List, [], map, Option, Some, None, false, true}
use Rattle.std.specs.FinMap.{is_sorted}
use Rattle.meta_types.specs.Order.{key_cmp}
use Rattle.meta_types.specs.Name.{Key}
use Rattle.dvvset.specs.Object.{Entry}
use Rattle.meta_store.specs.Table.{Table}
use Rattle.devices.specs.Device.{HasFailed}
use Rattle.node_events.specs.Event.{stored_key}
use Rattle.node_events.specs.declared.event.NodeEvent.{NodeEvent}
use Rattle.node_core.specs.declared.state.Stepped.{Stepped}
use Rattle.node_core.specs.Growing.{KeepsKeys}
use Rattle.node_core.specs.Node.{NodeParts}
use Rattle.node_core.specs.Step.{IsNodeStep}
use Rattle.node_file.specs.declared.fault.FileFault.{FileFault}
use Rattle.node_file.specs.declared.fault.FileFault.TheVariants.{FileFull, Device, Memory}
use Rattle.node_file.specs.declared.record.Record.{Record}
use Rattle.node_file.specs.File.{OpensLike, file_state}
use Rattle.node_file.specs.Stored.{IsTooLong, LeavesRecord, record_under, with_stored}
use Rattle.node_file.specs.Batch.{refusal_of_batch, state_with_all}
use Rattle.node_file.specs.declared.batch_fault.BatchFault.{BatchFault}
use Rattle.node_file.specs.declared.batch_fault.BatchFault.TheVariants as batches
use Rattle.node_file.specs.Clean.{row_record}
use Rattle.node_file.specs.View.{FileView, IsSettled}
use Rattle.node_readers.specs.Published.{Published}

-- the record that an event stores, after which this is held: the object that is held under its key,
-- if it stores one and something is held there
abbrev pub record_after : NodeEvent → Table → Option Record
record_after event held = record_under (stored_key event) held

-- what the file has: keys that rise, each of which is held
pub record IsStoredOf (held stored : Table) : Type 0 where
  pub rising : is_sorted key_cmp stored ≡ true
  pub keys : KeepsKeys stored held

-- ---- the file afterwards

-- the file has the record, if there is one, besides all that it had, and every crash leaves that
pub record HasStored {D : Type 0} (content : D → List ℕ) (may_leave : D → List ℕ → Type 0)
    (stored : Option Record) (old new : FileView D) : Type 0 where
  pub tells : file_state (content new.device)
      ≡ with_stored stored (file_state (content old.device))
  pub settled : IsSettled content may_leave new

-- the key and the object of each change
abbrev pub stored_rows : List Published → List (Key × List Entry)
stored_rows changes = map (λ c. (c.key, c.object)) changes

-- the file has the objects of all these changes, one after the other, besides all that it had, and
-- every crash leaves that
pub record HasStoredAll {D : Type 0} (content : D → List ℕ) (may_leave : D → List ℕ → Type 0)
    (changes : List Published) (old new : FileView D) : Type 0 where
  pub tells : file_state (content new.device)
      ≡ state_with_all (file_state (content old.device)) (map row_record (stored_rows changes))
  pub settled : IsSettled content may_leave new

-- a file of this closed gate has room for the record, if there is one
abbrev pub HasRecordRoom : ℕ → Option Record → Type 0
HasRecordRoom gate stored = IsTooLong gate stored → ⊥

-- a file of this closed gate has room for the objects of these changes, one behind the other
abbrev pub HasFileRoomFor : ℕ → List Published → Type 0
HasFileRoomFor gate changes = refusal_of_batch false gate (stored_rows changes) ≡ None

-- why the objects of these changes aren't stored: a file of this closed gate has no room for the
-- one at a place; or there is one, and its device failed, which stops it, or memory ran out, which
-- may stop it; it is stopped only if there was room for all
abbrev pub RefusesStoringAll : {D : Type 0} → ℕ → List Published → ℕ → ℕ → FileView D → BatchFault
    → Type 0
RefusesStoringAll gate changes before now new (batches.Object place FileFull) =
    (refusal_of_batch false gate (stored_rows changes) ≡ Some (batches.Object place FileFull))
    × (new.is_stopped ≡ false)
RefusesStoringAll gate changes before now new (batches.File Device) =
    (changes ≢ []) × (HasFileRoomFor gate changes
    × (HasFailed before now × (new.is_stopped ≡ true)))
RefusesStoringAll gate changes before now new (batches.File Memory) =
    (changes ≢ []) × (new.is_stopped ≡ true → HasFileRoomFor gate changes)
RefusesStoringAll gate changes before now new fault = ⊥

-- unless the file is stopped, it holds what it held, and every crash leaves that
abbrev pub IsStillWhole : {D : Type 0} → (D → List ℕ) → (D → List ℕ → Type 0)
    → FileView D → FileView D → Type 0
IsStillWhole content may_leave old new = new.is_stopped ≡ false
    → (content new.device ≡ content old.device) × IsSettled content may_leave new

-- it is the file of the same node in the same life
pub record IsOfSameLife {D : Type 0} (old new : FileView D) : Type 0 where
  pub node : new.node ≡ old.node
  pub life : new.life ≡ old.life
  pub served : new.is_served ≡ old.is_served

-- ---- what a crash leaves on the way

-- bytes that open as before, or that also have what a step of the event stores
pub record LeavesStep (old : NodeParts) (event : NodeEvent) (content bytes : List ℕ) : Type 0 where
  pub new : NodeParts
  pub stepped : Stepped
  pub step : IsNodeStep old event new stepped
  pub left : LeavesRecord content (record_after event new.table) bytes

abbrev pub LeavesOfEvent : NodeParts → NodeEvent → List ℕ → List ℕ → Type 0
LeavesOfEvent old event content bytes =
    OpensLike content bytes ⊎ LeavesStep old event content bytes

-- ---- why it isn't stored

-- something was to be stored, and a file of this closed gate has no room for it; or it has, and its
-- device, whose count of failures was `before` and is `now`, failed, which stops the file, or memory
-- ran out
abbrev pub RefusesStoring : {D : Type 0} → ℕ → Option Record → ℕ → ℕ → FileView D → FileFault
    → Type 0
RefusesStoring gate stored before now new FileFull =
    IsTooLong gate stored × (new.is_stopped ≡ false)
RefusesStoring gate stored before now new Device = (stored ≢ None)
    × (HasRecordRoom gate stored × (HasFailed before now × (new.is_stopped ≡ true)))
RefusesStoring gate stored before now new Memory =
    (stored ≢ None) × HasRecordRoom gate stored
RefusesStoring gate stored before now new fault = ⊥
