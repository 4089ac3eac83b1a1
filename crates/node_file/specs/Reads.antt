-- What private functions return.
use Rattle.std.specs.Prelude.{◌≡◌, ◌⊎◌, ◌<◌, ◌≤◌, ◌-◌, ◌++◌, ℕ, List, [], ◌∷◌, length, take, Option, Some, None, Result, Ok, Err, true, false}
use Rattle.frame_readers.specs.declared.fault.FieldFault.{FieldFault}
use Rattle.frame_readers.specs.declared.fault.FieldFault.TheVariants as fields
use Rattle.meta_store.specs.Table.{Table, most_keys}
use Rattle.node_file.specs.declared.fault.FileFault.{FileFault}
use Rattle.node_file.specs.declared.fault.FileFault.TheVariants.{Memory}
use Rattle.node_file.specs.declared.record.Record.{Record}
use Rattle.node_file.specs.declared.record.Record.TheVariants as records
use Rattle.node_file.specs.declared.record.NewRecord.{NewRecord}
use Rattle.node_file.specs.declared.record.NewRecord.TheVariants as given
use Rattle.node_file.specs.declared.contents.ReadFault.{ReadFault}
use Rattle.node_file.specs.declared.contents.ReadFault.TheVariants as reads
use Rattle.node_file.specs.declared.contents.Taken.{Taken}
use Rattle.node_file.specs.declared.contents.Taken.TheVariants as takes
use Rattle.node_file.specs.Fold.{Contents, with_record, may_follow, may_follow_life, life_with}
use Rattle.node_file.specs.File.{FileState, gated}

-- the record that is to be written
abbrev pub record_given : NewRecord → Record
record_given (given.Life n) = records.Life n
record_given (given.Object k o) = records.Object k.now o.now

-- a record was read, or there is none, unless memory ran out
abbrev pub ReadsRecord : Result Record FieldFault → Option Record → Type 0
ReadsRecord (Ok record_) said = said ≡ Some record_
ReadsRecord (Err fields.Memory) said = Unit {0}
ReadsRecord (Err (fields.Left n)) said = said ≡ None

-- all records are whole, and their keys are too many
abbrev pub HasTooMany : Result (Contents × ℕ) ℕ → Type 0
HasTooMany (Ok read) = most_keys < length read.0.table
HasTooMany (Err left) = ⊥

abbrev pub Ends : Result (ℕ × ℕ) ℕ → Type 0
Ends (Ok read) = Unit {0}
Ends (Err left) = ⊥

abbrev pub FailsLike : ReadFault → Result (Contents × ℕ) ℕ → Type 0
FailsLike reads.Memory read = Unit {0}
FailsLike reads.Full read = HasTooMany read
FailsLike (reads.Left n) read = read ≡ Err n

-- what was read, unless memory ran out
abbrev pub ReadsAs : Result (Contents × ℕ) ReadFault → Result (Contents × ℕ) ℕ → Type 0
ReadsAs (Ok x) read = (read ≡ Ok x) × (length x.0.table ≤ most_keys)
ReadsAs (Err fault) read = FailsLike fault read

-- if the keys are too many, the rest is only looked over
abbrev pub EndsAs : {X : Type 0} → Result X ReadFault → Result (ℕ × ℕ) ℕ → Type 0
EndsAs (Ok x) read = Ends read
EndsAs (Err reads.Memory) read = Unit {0}
EndsAs (Err reads.Full) read = ⊥
EndsAs (Err (reads.Left n)) read = read ≡ Err n

abbrev pub FailsBehind : ReadFault → Result (ℕ × ℕ) ℕ → Type 0
FailsBehind reads.Memory read = Unit {0}
FailsBehind reads.Full read = Ends read
FailsBehind (reads.Left n) read = read ≡ Err n

-- the record would make the keys too many, and nothing of it is kept
pub record WouldBeTooMany (old new : Contents) (record_ : Record) : Type 0 where
  pub may : may_follow old record_ ≡ true
  pub same : new ≡ old
  pub life : (with_record old record_).life ≡ old.life
  pub many : most_keys < length (with_record old record_).table

abbrev pub WasTaken : Contents → Contents → Record → Taken → Type 0
WasTaken old new record_ takes.Done =
    (may_follow old record_ ≡ true) × (new ≡ with_record old record_)
WasTaken old new record_ takes.NotRising = may_follow old record_ ≡ false
WasTaken old new record_ takes.TooMany = WouldBeTooMany old new record_

abbrev pub OpensAs : {X : Type 0} → (X → FileState × ℕ) → Result X FileFault
    → Result (FileState × ℕ) FileFault → Type 0
OpensAs view (Ok x) read = read ≡ Ok (view x)
OpensAs view (Err fault) read = (fault ≡ Memory) ⊎ (read ≡ Err fault)

-- the last life with a record that may follow
abbrev pub RisesTo : ℕ → Record → Option ℕ → Type 0
RisesTo life record_ (Some next) =
    (may_follow_life life record_ ≡ true) × (next ≡ life_with life record_)
RisesTo life record_ None = may_follow_life life record_ ≡ false

-- the same file with another table
abbrev pub with_table : Table → FileState → FileState
with_table table s = record {
  version = s.version;
  node = s.node;
  contents = record { life = s.contents.life; table = table };
}

-- ---- records that are written in place of the closed gate

-- a file with a record in place of its last byte
abbrev pub with_last : List ℕ → Record → List ℕ
with_last file record_ = take (length file - 1) file ++ gated record_

-- and then with each of these, one after the other
abbrev pub with_each : List ℕ → List Record → List ℕ
with_each file [] = file
with_each file (record_ ∷ records) = with_each (with_last file record_) records
