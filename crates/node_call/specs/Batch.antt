-- A batch: several writes of a node, which are all made or none. The rule is our own.
use Rattle.std.specs.Prelude.{◌≡◌, ◌≢◌, ◌≤◌, ◌+◌, ◌-◌, ◌^◌, ℕ, zero, suc, List, [], ◌∷◌, ◌++◌, length, take, map, All, None}
use Rattle.std.specs.FinMap.{find}
use Rattle.meta_types.specs.Order.{key_cmp}
use Rattle.meta_store.specs.Table.{IsTable}
use Rattle.node_events.specs.declared.event.NodeEvent.{NodeEvent}
use Rattle.node_events.specs.declared.event.NodeEvent.TheVariants as events
use Rattle.node_core.specs.Growing.{KeepsKeys}
use Rattle.node_core.specs.Node.{NodeParts}
use Rattle.node_core.specs.Step.{IsNodeStep}
use Rattle.node_core.specs.declared.state.Stepped.{Stepped}
use Rattle.node_journal.specs.declared.entry.Entry.{Entry}
use Rattle.node_journal.specs.declared.receipt.Receipt.{Receipt}
use Rattle.node_journal.specs.Entry.{stepped_of}
use Rattle.node_readers.specs.Published.{Published, with_all}
use Rattle.node_readers.specs.Growth.{GrowsByAll}
use Rattle.node_call.specs.declared.fault.LockFault.{LockFault}
use Rattle.node_call.specs.declared.batch.Batch.{Batch}
use Rattle.node_call.specs.declared.write.Write.{Write}
use Rattle.node_call.specs.declared.write.Write.TheVariants.{Put, PutOver}
use Rattle.node_call.specs.Journaled.{IsPublishedBy, IsRunWith}
use Rattle.node_call.specs.Ready.{IsKnownStep, Prevents}

-- the event that a write makes
abbrev pub event_written : Write → NodeEvent
event_written (Put key value context) = events.Write key value context
event_written (PutOver key value) = events.PutOver key value

abbrev pub IsWrite : NodeEvent → Type 0
IsWrite (events.Write key value context) = Unit {0}
IsWrite (events.PutOver key value) = Unit {0}
IsWrite event = ⊥

-- the write of this entry was made, and published this change
pub record IsMadeWrite (old : NodeParts) (e : Entry) (change : Published) (new : NodeParts)
    : Type 0 where
  pub known : IsKnownStep old e.event new (stepped_of e)
  pub published : IsPublishedBy e.event e.reply new.table (change ∷ [])

-- the entries of receipts
abbrev pub entries_of : List Receipt → List Entry
entries_of receipts = map (λ r. r.entry) receipts

-- receipts of this node, at the places from this one on
abbrev pub AreReceipts : ℕ → ℕ → List Receipt → Type 0
AreReceipts node place [] = Unit {0}
AreReceipts node place (r ∷ later) =
    (r.node ≡ node) × (r.place ≡ place) × AreReceipts node (place + 1) later

-- the writes were made one after another, by a run of the entries of these receipts, which
-- published these changes, one for each; what is published only grows; each key that changed is
-- held in the end; and the node, in its life, counts one step for each
pub record IsBatch (old : NodeParts) (writes : List Write) (receipts : List Receipt)
    (changes : List Published) (new : NodeParts) : Type 0 where
  pub events : map (λ e. e.event) (entries_of receipts) ≡ map event_written writes
  pub places : AreReceipts old.node old.steps receipts
  pub run : IsRunWith old (entries_of receipts) changes new
  pub one_each : length changes ≡ length receipts
  pub makes : with_all old.table changes ≡ new.table
  pub grows : GrowsByAll old.table changes
  pub lawful : IsTable new.table
  pub keeps : KeepsKeys old.table new.table
  pub held : All (λ c. find key_cmp c.key new.table ≢ None) changes
  pub node : new.node ≡ old.node
  pub life : new.incarnation ≡ old.incarnation
  pub steps : new.steps ≡ old.steps + length receipts

-- a journal of this limit and length has room for the entries of all these writes, and the life of
-- the node for their steps
abbrev pub HasRoomFor : ℕ → ℕ → NodeParts → List Write → Type 0
HasRoomFor limit count old writes = (writes ≢ [])
    → (count + length writes ≤ limit) × (old.steps + length writes ≤ 2 ^ 64 - 1)

-- the writes before the one at this place can be made, and then that one is prevented, in a journal
-- of this limit and length
abbrev pub PreventsAt : ℕ → NodeParts → List Write → ℕ → ℕ → LockFault → Type 0
PreventsAt place old [] limit count fault = ⊥
PreventsAt zero old (write ∷ later) limit count fault =
    Prevents old (event_written write) limit count fault
PreventsAt (suc place) old (write ∷ later) limit count fault =
    (between : NodeParts) × (s : Stepped) × IsNodeStep old (event_written write) between s
    × PreventsAt place between later limit (count + 1) fault

-- the write at this place is the first that is refused: there is room for all before it
pub record IsRefusedAt (place : ℕ) (old : NodeParts) (writes : List Write) (limit count : ℕ)
    (fault : LockFault) : Type 0 where
  pub room : HasRoomFor limit count old (take place writes)
  pub prevents : PreventsAt place old writes limit count fault

-- ---- what a private function says

-- the receipt and the change stand behind the others of the batch
pub record Keeps (old new : Batch) (receipt : Receipt) (change : Published) : Type 0 where
  pub receipts : new.receipts.items ≡ old.receipts.items ++ receipt ∷ []
  pub changes : new.changes.items ≡ old.changes.items ++ change ∷ []
