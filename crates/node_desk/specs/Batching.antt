-- What a batch of writes does to a desk: all of them are made, or none.
use Rattle.std.specs.Prelude.{◌≡◌, ◌≢◌, ◌⊎◌, ◌<◌, ℕ, Bool, true, false, List, [], ◌++◌, length, map, Some}
use Rattle.devices.specs.Device.{HasFailed}
use Rattle.node_core.specs.Node.{NodeParts}
use Rattle.node_file.specs.Batch.{NoneOrAll, most_batch, refusal_of_batch}
use Rattle.node_file.specs.Clean.{row_record}
use Rattle.node_file.specs.File.{OpensLike}
use Rattle.node_file.specs.declared.batch_fault.BatchFault.TheVariants as of_file
use Rattle.node_file.specs.declared.fault.FileFault.TheVariants as faults
use Rattle.node_journal.specs.declared.receipt.Receipt.{Receipt}
use Rattle.node_readers.specs.Published.{Published}
use Rattle.node_call.specs.declared.batch.BatchRefusal.{BatchRefusal}
use Rattle.node_call.specs.declared.batch.BatchRefusal.TheVariants as refusals
use Rattle.node_call.specs.declared.fault.LockFault.{LockFault}
use Rattle.node_call.specs.declared.fault.LockFault.TheVariants.{Device, FileFull, Stopped, Memory}
use Rattle.node_call.specs.declared.write.Write.{Write}
use Rattle.node_call.specs.Batch.{HasRoomFor, IsBatch, IsRefusedAt, entries_of}
use Rattle.node_call.specs.Stored.{HasFileRoomFor, HasStoredAll, stored_rows}
use Rattle.node_desk.specs.Desk.{DeskView}

-- the writes are made, with these receipts, whose entries are journaled; what they published goes
-- on the list, and what they stored is in the file, which had room for it
pub record IsBatchMade {D : Type 0} (content : D → List ℕ) (may_leave : D → List ℕ → Type 0)
    (old : DeskView D) (writes : List Write) (receipts : List Receipt) (new : DeskView D)
    : Type 0 where
  pub changes : List Published
  pub batch : IsBatch old.state writes receipts changes new.state
  pub journal : new.journal ≡ old.journal ++ entries_of receipts
  pub list : new.list ≡ old.list ++ changes
  pub file_room : HasFileRoomFor old.file.gate changes
  pub stored : HasStoredAll content may_leave changes old.file new.file

-- the node can make the writes, which publish these changes
pub record CanBatch (old : NodeParts) (writes : List Write) : Type 0 where
  pub receipts : List Receipt
  pub changes : List Published
  pub new : NodeParts
  pub batch : IsBatch old writes receipts changes new

-- it can make them, and its journal has room for their entries
pub record CanKeepAll {D : Type 0} (old : DeskView D) (writes : List Write) : Type 0 where
  pub can : CanBatch old.state writes
  pub room : HasRoomFor old.limit (length old.journal) old.state writes

-- its file has room for the objects that they store
abbrev pub HasFileRoomForAll : {D : Type 0} {old : DeskView D} {writes : List Write}
    → CanKeepAll old writes → Type 0
HasFileRoomForAll {old = old} k = HasFileRoomFor old.file.gate k.can.changes

-- ---- what a crash leaves on the way

-- bytes that open as before, or that have all that the writes store
abbrev pub LeavesOfBatch : NodeParts → List Write → List ℕ → List ℕ → Type 0
LeavesOfBatch old writes content bytes = OpensLike content bytes ⊎ ((k : CanBatch old writes)
    × NoneOrAll content (map row_record (stored_rows k.changes)) bytes)

-- ---- why it is refused

-- the file has no room for what the write at this place stores, behind those before it
abbrev pub FillsFileAt : {D : Type 0} → ℕ → DeskView D → List Write → Type 0
FillsFileAt place old writes = (k : CanKeepAll old writes)
    × (refusal_of_batch false old.file.gate (stored_rows k.can.changes)
    ≡ Some (of_file.Object place faults.FileFull))

-- why the write at this place refuses the batch: as it would refuse the call of its own, after the
-- writes before it
abbrev pub RefusesWrite : {D : Type 0} → DeskView D → List Write → ℕ → LockFault → Type 0
RefusesWrite old writes place FileFull = FillsFileAt place old writes
RefusesWrite old writes place fault =
    IsRefusedAt place old.state writes old.limit (length old.journal) fault

-- why a batch is refused, and whether the node is stopped then: it has too many writes; one of them
-- is refused; or the node is stopped, its device fails, which stops it, or memory runs out, which
-- may stop it once there was room for all. A batch without writes doesn't come to the device
abbrev pub RefusesBatch : {D : Type 0} → (D → ℕ) → DeskView D → List Write → BatchRefusal
    → DeskView D → Type 0
RefusesBatch failed old writes refusals.TooMany new =
    (most_batch < length writes) × (new.stopped ≡ false)
RefusesBatch failed old writes (refusals.Write place fault) new =
    RefusesWrite old writes place fault × (new.stopped ≡ false)
RefusesBatch failed old writes (refusals.Node Stopped) new =
    (old.stopped ≡ true) × ((new.stopped ≡ true) × (new.file ≡ old.file))
RefusesBatch failed old writes (refusals.Node Device) new =
    (k : CanKeepAll old writes) × (HasFileRoomForAll k × ((writes ≢ [])
    × (HasFailed (failed old.file.device) (failed new.file.device) × (new.stopped ≡ true))))
RefusesBatch failed old writes (refusals.Node Memory) new =
    new.stopped ≡ true → (k : CanKeepAll old writes) × (HasFileRoomForAll k × (writes ≢ []))
RefusesBatch failed old writes (refusals.Node fault) new = ⊥

-- why the outlets refuse what a batch publishes: the file has no room for the object at a place; or
-- there is a change, and its device failed, which stops it, or memory ran out, which may stop it. It
-- is stopped only if there was room for all
abbrev pub RefusesKeepingAll : ℕ → List Published → ℕ → ℕ → Bool → BatchRefusal → Type 0
RefusesKeepingAll gate changes before now stopped (refusals.Write place FileFull) =
    (refusal_of_batch false gate (stored_rows changes)
    ≡ Some (of_file.Object place faults.FileFull)) × (stopped ≡ false)
RefusesKeepingAll gate changes before now stopped (refusals.Node Device) =
    (changes ≢ []) × (HasFileRoomFor gate changes × (HasFailed before now × (stopped ≡ true)))
RefusesKeepingAll gate changes before now stopped (refusals.Node Memory) =
    (changes ≢ []) × (stopped ≡ true → HasFileRoomFor gate changes)
RefusesKeepingAll gate changes before now stopped refusal = ⊥
