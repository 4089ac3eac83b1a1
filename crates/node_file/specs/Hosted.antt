-- A node's file whose bytes a host keeps himself: the calls by which he appends a record to it, and
-- that no crash breaks it. The rule is our own.
use Rattle.std.specs.Prelude.{◌≡◌, ℕ, ◌+◌, ◌≤◌, List, [], ◌∷◌, ◌++◌, length, None, Ok, true}
use Rattle.devices.specs.Calls.{CrashLeaves, CrashLeftSince, DeviceCall, content_after, synced, wrote}
use Rattle.meta_store.specs.Table.{most_keys}
use Rattle.node_file.specs.declared.record.Record.{Record}
use Rattle.node_file.specs.Record.{IsRecord, payload, record_bytes}
use Rattle.node_file.specs.Fold.{may_follow}
use Rattle.node_file.specs.File.{FileState, StandsFor, WithOrWithout, file_state, opened, record_size, state_with}
use Rattle.node_file.specs.Batch.{NoneOrAll, batch_size, behind_first, state_with_all}

-- The record is written after the closed gate at this offset and synced, and then the gate is
-- opened and synced. The newest call stands first.
abbrev pub append_calls : ℕ → Record → List DeviceCall
append_calls gate record_ =
    synced ∷ wrote gate (1 ∷ [])
    ∷ synced ∷ wrote (gate + 1) (record_bytes (payload record_) ++ 0 ∷ []) ∷ []

-- a file that stands for this can take the record
pub record CanTake (s : FileState) (record_ : Record) : Type 0 where
  pub version : s.version ≡ 2
  pub lawful : IsRecord record_
  pub follows : may_follow s.contents record_ ≡ true
  pub room : length (state_with s record_).contents.table ≤ most_keys

-- after the calls the file has the record, and so has what every crash until the next call leaves;
-- a crash at any moment before leaves it without the record or with it
pub record TakesRecord (file : List ℕ) (gate : ℕ) (record_ : Record) : Type 0 where
  pub opens : opened None (content_after file (append_calls gate record_))
      ≡ Ok (state_with (file_state file) record_, gate + record_size record_)
  pub durable : (c : List ℕ) → CrashLeaves file (append_calls gate record_) c
      → StandsFor (state_with (file_state file) record_) c
  pub any_moment : (c : List ℕ) → CrashLeftSince file (append_calls gate record_) 0 c
      → WithOrWithout file record_ c

-- ---- many records at once

-- all but the gate of the first is written after the closed gate and synced, and then that gate is
-- opened and synced
abbrev pub batch_calls : ℕ → Record → List Record → List DeviceCall
batch_calls gate first more =
    synced ∷ wrote gate (1 ∷ [])
    ∷ synced ∷ wrote (gate + 1) (behind_first first more) ∷ []

-- after the calls the file has the records, and so has what every crash until the next call
-- leaves; a crash at any moment before leaves it without them or with all
pub record TakesAll (file : List ℕ) (gate : ℕ) (first : Record) (more : List Record)
    : Type 0 where
  pub opens : opened None (content_after file (batch_calls gate first more))
      ≡ Ok (
        state_with_all (file_state file) (first ∷ more),
        gate + batch_size (first ∷ more),
      )
  pub durable : (c : List ℕ) → CrashLeaves file (batch_calls gate first more) c
      → StandsFor (state_with_all (file_state file) (first ∷ more)) c
  pub any_moment : (c : List ℕ) → CrashLeftSince file (batch_calls gate first more) 0 c
      → NoneOrAll file (first ∷ more) c
