-- The file of a host: how it relates to his node, what he does to store records, and what a crash
-- leaves of that. The rule is our own.
use Rattle.std.specs.Prelude.{◌≡◌, ◌≤◌, ℕ, zero, suc, ◌+◌, List, [], ◌∷◌, ◌++◌, length, take, drop, fold, Option, Some, None, Ok}
use Rattle.std.specs.FinMap.{find}
use Rattle.meta_types.specs.Name.{Key}
use Rattle.meta_types.specs.Order.{key_cmp}
use Rattle.dvvset.specs.Object.{Entry}
use Rattle.meta_store.specs.Table.{IsTable, Table}
use Rattle.node_core.specs.Growing.{Descends, KeepsKeys}
use Rattle.node_core.specs.Node.{NodeParts}
use Rattle.devices.specs.Calls.{CrashLeaves, CrashLeftSince, DeviceCall, content_after, failed_to_write, synced, wrote}
use Rattle.node_file.specs.declared.record.Record.{Record}
use Rattle.node_file.specs.declared.record.Record.TheVariants.{Object}
use Rattle.node_file.specs.Fold.{no_contents, with_record}
use Rattle.node_file.specs.File.{FileState, OpensLike, file_state, opened}
use Rattle.node_file.specs.Batch.{CanTakeAll, NoneOrAll, state_with_all}
use Rattle.node_hosted.specs.Hosting.{HostedParts}
use Rattle.node_hosted.specs.Unstored.{spelled}

-- ---- a file and its node

-- What a file has stored is known to the node that holds this: each key is held, by an object that
-- counts all events that the stored one counts.
pub record IsKnownTo (held stored : Table) : Type 0 where
  pub held_is_table : IsTable held
  pub stored_is_table : IsTable stored
  pub keys : KeepsKeys stored held
  pub events : Descends stored held

-- the second has all that the first has: each key, with an object that counts all events that the
-- first one's counts. Its last life is no earlier.
pub record HasAllOf (first second : FileState) : Type 0 where
  pub version : second.version ≡ first.version
  pub node : second.node ≡ first.node
  pub keys : KeepsKeys first.contents.table second.contents.table
  pub events : Descends first.contents.table second.contents.table
  pub life : first.contents.life ≤ second.contents.life

-- what the file stands for once it has all that the node has to store
abbrev pub with_all_stored : List ℕ → HostedParts → FileState
with_all_stored file n = state_with_all (file_state file) n.to_store

-- a file that stands for this can take the records; it then has all that it had, the node knows
-- what it has, and its last life is the node's
pub record AreNext (s : FileState) (n : NodeParts) (records : List Record) : Type 0 where
  pub can_take : CanTakeAll s records
  pub has_all : HasAllOf s (state_with_all s records)
  pub known : IsKnownTo n.table (state_with_all s records).contents.table
  pub life : (state_with_all s records).contents.life ≡ n.incarnation

-- The file is this node's: its closed gate stands where the node says, it is of version 2 and of
-- the node's number, and the node knows what it has. It can take what is to be stored, and then its
-- last life is the node's.
pub record IsFileOf (file : List ℕ) (n : HostedParts) : Type 0 where
  pub gate : ℕ
  pub its_gate : n.gate ≡ Some gate
  pub opens : opened None file ≡ Ok (file_state file, gate)
  pub version : (file_state file).version ≡ 2
  pub node : (file_state file).node ≡ n.state.node
  pub known : IsKnownTo n.state.table (file_state file).contents.table
  pub next : AreNext (file_state file) n.state n.to_store

-- ---- what the host does

-- He writes the bytes after the first, beginning one byte after the gate; syncs; writes the first
-- byte over the gate; and syncs. The newest call stands first.
abbrev pub calls_to_store : Option ℕ → Option (List ℕ) → List DeviceCall
calls_to_store (Some gate) (Some bytes) =
    synced ∷ wrote gate (take 1 bytes) ∷ synced ∷ wrote (gate + 1) (drop 1 bytes) ∷ []
calls_to_store gate bytes = []

-- The first of these calls failed this often: he may make it again, since nothing was synced and
-- the gate is still closed.
abbrev pub failed_writes : ℕ → Option ℕ → Option (List ℕ) → List DeviceCall
failed_writes zero gate bytes = []
failed_writes (suc failures) (Some gate) (Some bytes) =
    failed_to_write (gate + 1) (length (drop 1 bytes))
    ∷ failed_writes failures (Some gate) (Some bytes)
failed_writes (suc failures) gate bytes = []

-- the calls by which he stores what the node has to store, if the first one failed this often
-- before it was made
abbrev pub host_calls : ℕ → HostedParts → List DeviceCall
host_calls failures n =
    calls_to_store n.gate (spelled n.to_store) ++ failed_writes failures n.gate (spelled n.to_store)

-- ---- what there is to store

-- the object of the newest of these records under the key, if there is one
abbrev pub newest_under : Key → List Record → Option (List Entry)
newest_under key records = find key_cmp key (fold with_record no_contents records).table

-- the newest record of the key that is to be stored is that of the object that the node holds there
pub record HasRecordOf (key : Key) (n : HostedParts) : Type 0 where
  pub object : List Entry
  pub held : find key_cmp key n.state.table ≡ Some object
  pub newest : newest_under key n.to_store ≡ Some object

-- that record is the last one, behind those that were to be stored before
pub record AddsRecordOf (key : Key) (old new : HostedParts) : Type 0 where
  pub has : HasRecordOf key new
  pub to_store : new.to_store ≡ old.to_store ++ Object key has.object ∷ []

-- ---- what becomes of his file

-- the bytes open as the file does, or stand for what it stands for with all these records
abbrev pub OpensWithOrWithout : List ℕ → List Record → List ℕ → Type 0
OpensWithOrWithout file [] c = OpensLike file c
OpensWithOrWithout file records c = NoneOrAll file records c

-- After the calls, the first of which may have failed before, the file says what it said, and then
-- the records. It is the new node's file, and every crash until the next call leaves such a file. A
-- crash at any earlier moment leaves the old file without the records or with all of them.
pub record IsStoredIn (failures : ℕ) (file : List ℕ) (old new : HostedParts) : Type 0 where
  pub tells : file_state (content_after file (host_calls failures old))
      ≡ with_all_stored file old
  pub after : IsFileOf (content_after file (host_calls failures old)) new
  pub durable : (c : List ℕ) → CrashLeaves file (host_calls failures old) c → IsFileOf c new
  pub any_moment : (c : List ℕ) → CrashLeftSince file (host_calls failures old) 0 c
      → OpensWithOrWithout file old.to_store c

-- the file has under the key the object that the node holds there
pub record HasObjectOf (key : Key) (n : HostedParts) (file : List ℕ) : Type 0 where
  pub object : List Entry
  pub held : find key_cmp key n.state.table ≡ Some object
  pub stored : find key_cmp key (file_state file).contents.table ≡ Some object
