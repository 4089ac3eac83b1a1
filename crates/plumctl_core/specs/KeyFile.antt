-- Keys out of a file, and how a command ends that gets none.
use Rattle.std.specs.Prelude.{◌≡◌, ◌⊎◌, ◌<◌, ◌≤◌, ℕ, List, [], ◌∷◌, ◌++◌, length, take, Some, None, codes}
use Rattle.std.specs.Io.KnownBytes.{Consumes, IsAtEnd}
use Rattle.sealed_frames.specs.Keys.{keys_of}
use Rattle.sealed_frames.specs.declared.key.Keys.{Keys}
use Rattle.streams.specs.declared.fault.StreamFault.TheVariants.{Read}
use Rattle.streams.specs.Moment.{SinkAt, SourceAt}
use Rattle.plumctl_core.specs.Opening.{TellsText, cause_line}
use Rattle.plumctl_core.specs.Status.{line_of_fault}

-- the whole file was read, by a reader that has not failed anew, and it holds these keys
pub record HoldsKeys (reader_old reader_new : SourceAt) (keys : Keys) : Type 0 where
  pub bytes : List ℕ
  pub consumed : Consumes reader_old.remaining reader_new.remaining bytes
  pub end : IsAtEnd reader_new.remaining
  pub keys_are : keys_of bytes ≡ Some keys
  pub sound : reader_new.failed → reader_old.failed

-- what was read of the file is no keys, and is all of it, or more than keys have
pub record HoldsNoKeys (reader_old reader_new : SourceAt) : Type 0 where
  pub bytes : List ℕ
  pub consumed : Consumes reader_old.remaining reader_new.remaining bytes
  pub whole : IsAtEnd reader_new.remaining ⊎ (64 < length bytes)
  pub none : keys_of bytes ≡ None
  pub sound : reader_new.failed → reader_old.failed

-- what is printed of a file of this name if reading it failed, and if it holds no keys
abbrev pub unread_text : List ℕ → List ℕ
unread_text name = line_of_fault Read ++ cause_line name (codes "could not be read")

abbrev pub bad_key_text : List ℕ → List ℕ
bad_key_text name = codes "error 18 BadKey" ++ (10 ∷ [])
    ++ cause_line name (codes "has neither 32 bytes nor 64")

-- how a command ends without the keys of the file of this name: it said why, and its status is 3
abbrev pub EndsWithoutKeys : List ℕ → (reader_old reader_new : SourceAt)
    → (errors_old errors_new : SinkAt) → (status : ℕ) → Type 0
EndsWithoutKeys name reader_old reader_new errors_old errors_new status = (status ≡ 3)
    × ((reader_new.failed × TellsText errors_old errors_new (unread_text name))
    ⊎ (HoldsNoKeys reader_old reader_new × TellsText errors_old errors_new (bad_key_text name)))

-- ---- what private functions cite

-- so many bytes at the front of the room were read: all there are, or as many as there is room for
pub record FillsFront (reader_old reader_new : SourceAt) (room : List ℕ) (len : ℕ) : Type 0 where
  pub fits : len ≤ length room
  pub consumed : Consumes reader_old.remaining reader_new.remaining (take len room)
  pub whole : IsAtEnd reader_new.remaining ⊎ (len ≡ length room)
  pub sound : reader_new.failed → reader_old.failed
