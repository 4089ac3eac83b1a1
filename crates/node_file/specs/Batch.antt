-- A batch: objects that one append puts into a file, all of them or none. The rule is our own.
use Rattle.std.specs.Prelude.{◌≡◌, ◌⊎◌, ◌≤◌, ℕ, ◌+◌, List, [], ◌∷◌, ◌++◌, length, fold, All, Option, Some, None, Bool, true, false, nat_lt, if◌then◌else◌}
use Rattle.meta_types.specs.Name.{Key}
use Rattle.dvvset.specs.Object.{Entry}
use Rattle.devices.specs.Device.{Overwrites}
use Rattle.meta_store.specs.Table.{most_keys}
use Rattle.node_file.specs.declared.fault.FileFault.{FileFault}
use Rattle.node_file.specs.declared.fault.FileFault.TheVariants.{Stopped}
use Rattle.node_file.specs.declared.batch_fault.BatchFault.{BatchFault}
use Rattle.node_file.specs.declared.batch_fault.BatchFault.TheVariants as batches
use Rattle.node_file.specs.declared.record.Record.{Record}
use Rattle.node_file.specs.Record.{IsRecord, payload, record_bytes}
use Rattle.node_file.specs.Fold.{Contents, may_follow, with_record}
use Rattle.node_file.specs.File.{FileState, OpensLike, StandsFor, file_state, record_size}
use Rattle.node_file.specs.Clean.{behind_gates, row_record}
use Rattle.node_file.specs.Fault.{IsOfDevice}
use Rattle.node_file.specs.Refusal.{refusal_of_append}

-- ---- a file with all of them

-- what it stands for then: each is taken in after those before it
abbrev pub state_with_all : FileState → List Record → FileState
state_with_all s records = record {
  version = s.version;
  node = s.node;
  contents = fold with_record s.contents records;
}

-- the bytes of the records as they stand from the closed gate on: each behind an open gate, and a
-- closed gate behind the last; of none there are none
abbrev pub batch_bytes : List Record → List ℕ
batch_bytes [] = []
batch_bytes (record_ ∷ records) = behind_gates (record_ ∷ records)

-- the same without the gate of the first, which is opened last
abbrev pub behind_first : Record → List Record → List ℕ
behind_first first more = record_bytes (payload first) ++ behind_gates more

-- how many bytes they take, from the gate of the first to the one after the last
abbrev pub batch_size : List Record → ℕ
batch_size [] = 0
batch_size (record_ ∷ records) = record_size record_ + batch_size records

-- the new bytes are the old ones with the records from this closed gate on
unfoldable pub AreAppended : ℕ → List Record → List ℕ → List ℕ → Type 0
AreAppended gate records old new = Overwrites old gate (batch_bytes records) new

-- a crash while they were appended left these bytes: they open as before, or they stand for what
-- there was with all of them
abbrev pub NoneOrAll : List ℕ → List Record → List ℕ → Type 0
NoneOrAll old records bytes =
    OpensLike old bytes ⊎ StandsFor (state_with_all (file_state old) records) bytes

-- ---- which records may stand one after the other

-- each may follow what those before it make of these contents
abbrev pub EachFollows : Contents → List Record → Type 0
EachFollows c [] = Unit {0}
EachFollows c (record_ ∷ records) =
    (may_follow c record_ ≡ true) × EachFollows (with_record c record_) records

-- a file that stands for this can take them all
pub record CanTakeAll (s : FileState) (records : List Record) : Type 0 where
  pub version : s.version ≡ 2
  pub lawful : All IsRecord records
  pub follow : EachFollows s.contents records
  pub room : length (state_with_all s records).contents.table ≤ most_keys

-- ---- refusals

-- the most objects of a batch
abbrev pub most_batch : ℕ
most_batch = 256

abbrev pub at_place : ℕ → Option FileFault → Option BatchFault → Option BatchFault
at_place place None more = more
at_place place (Some fault) more = Some (batches.Object place fault)

-- The first of the objects from this place on that an append would refuse, and why: the first
-- would come to stand behind this gate, each other one behind the one before it.
unfoldable pub refused_object : ℕ → ℕ → List (Key × List Entry) → Option BatchFault
refused_object place gate [] = None
refused_object place gate (row ∷ rows) =
    at_place place (refusal_of_append false gate row.0 row.1)
    (refused_object (place + 1) (gate + record_size (row_record row)) rows)

-- why a batch is refused: the file is stopped, the objects are too many, one of them is refused
abbrev pub refusal_of_batch : Bool → ℕ → List (Key × List Entry) → Option BatchFault
refusal_of_batch is_stopped gate rows =
    if is_stopped then Some (batches.File Stopped)
    else (if nat_lt most_batch (length rows) then Some batches.TooMany
    else refused_object 0 gate rows)

-- the refusal is one of a call on a device, whose count of failures was `before` and is `now`
abbrev pub IsBatchOfDevice : BatchFault → ℕ → ℕ → Type 0
IsBatchOfDevice batches.TooMany before now = ⊥
IsBatchOfDevice (batches.Object place fault) before now = ⊥
IsBatchOfDevice (batches.File fault) before now = IsOfDevice fault before now
