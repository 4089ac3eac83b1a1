-- What a batch of writes does at a desk.
use Rattle.std.proofs.Common.{◌≡◌, ◌≢◌, ◌⊎◌, ◌+◌, ◌≤◌, ℕ, Bool, List, [], ◌++◌, length, map, false, inl, inr, refl, sym, ap, ◌∙◌, subst, arith, length-append}
use Rattle.std.proofs.lemmas.List.{length-map, nil_from_length}
use Rattle.std.proofs.lemmas.List.Sums.{fold-append}
use Rattle.meta_store.specs.Table.{Table}
use Rattle.devices.specs.Device.{IsDurable, LeavesOnly}
use Rattle.devices.proofs.Moments.{weaker}
use Rattle.node_core.specs.Node.{NodeParts}
use Rattle.node_file.specs.Batch.{NoneOrAll, most_batch, refused_object, state_with_all}
use Rattle.node_file.specs.View.{FileView}
use Rattle.node_file.specs.declared.batch_fault.BatchFault.{BatchFault}
use Rattle.node_file.specs.declared.batch_fault.BatchFault.TheVariants as OfFile
use Rattle.node_file.specs.declared.fault.FileFault.TheVariants as faults
use Rattle.node_file.specs.Clean.{row_record}
use Rattle.node_file.specs.File.{FileState, OpensLike}
use Rattle.node_journal.specs.declared.entry.Entry.{Entry}
use Rattle.node_journal.specs.declared.receipt.Receipt.{Receipt}
use Rattle.node_readers.specs.Published.{Published, with_all, with_published}
use Rattle.node_call.specs.declared.batch.BatchRefusal.{BatchRefusal}
use Rattle.node_call.specs.declared.batch.BatchRefusal.TheVariants as refusals
use Rattle.node_call.specs.declared.fault.LockFault.{LockFault}
use Rattle.node_call.specs.declared.fault.LockFault.TheVariants.{FileFull, Device, Memory}
use Rattle.node_call.specs.declared.write.Write.{Write}
use Rattle.node_call.specs.Batch.{HasRoomFor, IsBatch, IsRefusedAt, entries_of, event_written}
use Rattle.node_call.specs.Fault.{of_batch}
use Rattle.node_call.specs.Stored.{HasFileRoomFor, IsStoredOf, RefusesStoringAll, stored_rows}
use Rattle.node_call.proofs.Batching.{as_many, never_for_the_file, stored_all}
use Rattle.node_call.proofs.Files.{untouched}
use Rattle.node_desk.specs.Batching.{CanBatch, CanKeepAll, LeavesOfBatch, RefusesBatch, RefusesKeepingAll, RefusesWrite}
use Rattle.node_desk.specs.Desk.{DeskView, IsOfLife}
use Rattle.node_desk.proofs.Kept.{kept_within}

-- ---- why it is refused

pub refuses_write : {D : Type 0} (old : DeskView D) (writes : List Write) (place : ℕ) (fault : LockFault)
    → IsRefusedAt place old.state writes old.limit (length old.journal) fault → RefusesWrite old writes place fault
refuses_write old writes place FileFull p = absurd (never_for_the_file place old.state writes old.limit (length old.journal) p.prevents)
refuses_write old writes place _ p = p

-- what changed something has writes
some_written : (old : NodeParts) (writes : List Write) (k : CanBatch old writes) → k.changes ≢ [] → writes ≢ []
some_written old writes k some none =
    let many = as_many old k.new writes k.receipts k.changes k.batch in
    some (nil_from_length k.changes (omega (arith, many, k.batch.one_each, ap length none)))

pub refuses_batch : {D : Type 0} (failed : D → ℕ) (old new : DeskView D) (writes : List Write) (k : CanKeepAll old writes) (refusal : BatchRefusal)
    → RefusesKeepingAll old.file.gate k.can.changes (failed old.file.device) (failed new.file.device) new.stopped refusal
    → RefusesBatch failed old writes refusal new
refuses_batch failed old new writes k (refusals.Write place FileFull) r = ((k, r.0), r.1)
refuses_batch failed old new writes k (refusals.Node Device) r =
    (k, (r.1.0, (some_written old.state writes k.can r.0, r.1.1)))
refuses_batch failed old new writes k (refusals.Node Memory) r = λ stopped. (k, (r.1 stopped, some_written old.state writes k.can r.0))
refuses_batch failed old new writes k _ r = absurd r

-- a batch that changes nothing has room
pub nothing_has_room : (gate : ℕ) (changes : List Published) → length changes ≡ 0
    → HasFileRoomFor gate changes
unfolding refused_object
nothing_has_room gate changes none =
    subst (HasFileRoomFor gate) (sym (nil_from_length changes none)) refl

-- ---- what a crash leaves

pub leaves_of_batch : {D : Type 0} (content : D → List ℕ) (moment : D → ℕ) (left_since : D → ℕ → List ℕ → Type 0) (from to : D)
    (old : NodeParts) (writes : List Write) (k : CanBatch old writes)
    → LeavesOnly moment left_since from to (NoneOrAll (content from) (map row_record (stored_rows k.changes)))
    → LeavesOnly moment left_since from to (LeavesOfBatch old writes (content from))
leaves_of_batch content moment left_since from to old writes k leaves =
    weaker moment left_since from to (NoneOrAll (content from) (map row_record (stored_rows k.changes))) (LeavesOfBatch old writes (content from)) leaves
    (λ c left. inr (k, left))

-- ---- what is counted

pub few_changes : (old new : NodeParts) (writes : List Write) (receipts : List Receipt) (changes : List Published) → IsBatch old writes receipts changes new
    → length writes ≤ most_batch → length changes ≤ most_batch
few_changes old new writes receipts changes b few =
    omega (arith, as_many old new writes receipts changes b, b.one_each, few)

pub batch_of_life : (number life : ℕ) (old new : NodeParts) (writes : List Write) (receipts : List Receipt) (changes : List Published)
    → IsOfLife number life old → IsBatch old writes receipts changes new → IsOfLife number life new
batch_of_life number life old new writes receipts changes of_life b = record {
  node = b.node ∙ of_life.node;
  life = b.life ∙ of_life.life;
}

pub keeping_all_refused : {D : Type 0} (gate : ℕ) (changes : List Published) (before now : ℕ) (file : FileView D) (fault : BatchFault)
    → RefusesStoringAll gate changes before now file fault → RefusesKeepingAll gate changes before now file.is_stopped (of_batch fault)
keeping_all_refused gate changes before now file (OfFile.Object place faults.FileFull) r = r
keeping_all_refused gate changes before now file (OfFile.File faults.Device) r = r
keeping_all_refused gate changes before now file (OfFile.File faults.Memory) r = r
keeping_all_refused gate changes before now file _ r = absurd r

pub refused_at : {D : Type 0} (failed : D → ℕ) (old new : DeskView D) (writes : List Write) (refusal : BatchRefusal) (place : ℕ) (fault : LockFault)
    → refusal ≡ refusals.Write place fault → IsRefusedAt place old.state writes old.limit (length old.journal) fault → new.stopped ≡ false
    → RefusesBatch failed old writes refusal new
refused_at failed old new writes refusal place fault is p going =
    subst (λ r. RefusesBatch failed old writes r new) (sym is) (refuses_write old writes place fault p, going)

-- nothing was done to the device
pub nothing_left : {D : Type 0} (content : D → List ℕ) (may_leave : D → List ℕ → Type 0) (moment : D → ℕ) (left_since : D → ℕ → List ℕ → Type 0) (device : D)
    (old : NodeParts) (writes : List Write) → IsDurable (content device) (may_leave device)
    → ((c : List ℕ) → left_since device (moment device) c → may_leave device c)
    → LeavesOnly moment left_since device device (LeavesOfBatch old writes (content device))
nothing_left content may_leave moment left_since device old writes durable now_is_all =
    weaker moment left_since device device (OpensLike (content device)) (LeavesOfBatch old writes (content device))
    (untouched content may_leave moment left_since device durable now_is_all) (λ c left. inl left)

-- what is stored is held
pub batch_within : (old new : NodeParts) (writes : List Write) (receipts : List Receipt) (changes : List Published) (before after : FileState)
    → IsBatch old writes receipts changes new → IsStoredOf old.table before.contents.table
    → after ≡ state_with_all before (map row_record (stored_rows changes)) → IsStoredOf new.table after.contents.table
batch_within old new writes receipts changes before after b within tells =
    subst (λ (f : FileState). IsStoredOf new.table f.contents.table) (sym tells)
    (stored_all new.table changes before.contents (kept_within old.table new.table before.contents.table b.keeps within) b.held)

pub batch_makes : (opened : Table) (list : List Published) (old new : NodeParts) (writes : List Write) (receipts : List Receipt) (changes : List Published)
    → with_all opened list ≡ old.table → IsBatch old writes receipts changes new → with_all opened (list ++ changes) ≡ new.table
batch_makes opened list old new writes receipts changes is b =
    fold-append with_published opened list changes ∙ (ap (λ t. with_all t changes) is ∙ b.makes)

pub batch_counts : (base : ℕ) (old new : NodeParts) (journal : List Entry) (writes : List Write) (receipts : List Receipt) (changes : List Published)
    → base + length journal ≡ old.steps → IsBatch old writes receipts changes new → base + length (journal ++ entries_of receipts) ≡ new.steps
batch_counts base old new journal writes receipts changes is b =
    omega (arith, is, b.steps, length-append journal (entries_of receipts), length-map receipts (λ (r : Receipt). r.entry))
