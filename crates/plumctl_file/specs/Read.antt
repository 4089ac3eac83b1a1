-- What a reader gave of the file of a node.
use Rattle.std.specs.Prelude.{◌≡◌, ◌⊎◌, ℕ, List, [], ◌++◌, Option, None, Ok, Err}
use Rattle.std.specs.Io.KnownBytes.{Consumes, IsAtEnd}
use Rattle.file_pieces.specs.Told.{Came, tells, warns}
use Rattle.file_pieces.specs.declared.progress.FileContents.{FileContents}
use Rattle.node_file.specs.File.{FileState, file_state, opened}
use Rattle.node_file.specs.Gates.{changed_gate}
use Rattle.node_file.specs.declared.fault.FileFault.{FileFault}
use Rattle.node_file.specs.declared.fault.FileFault.TheVariants.{Device}
use Rattle.streams.specs.Moment.{SourceAt}

-- no byte that follows these counts
pub record IsEnough (bytes : List ℕ) : Type 0 where
  pub opens : (following : List ℕ) → opened None (bytes ++ following) ≡ opened None bytes
  pub warns : (following : List ℕ) (state : FileState) (gate : ℕ)
      → opened None bytes ≡ Ok (state, gate)
      → changed_gate (bytes ++ following) ≡ changed_gate bytes

-- a reader that has not failed anew gave these bytes, and is at its end, or they are enough
pub record HasGiven (old new : SourceAt) (bytes : List ℕ) : Type 0 where
  pub consumed : Consumes old.remaining new.remaining bytes
  pub enough : IsAtEnd new.remaining ⊎ IsEnough bytes
  pub sound : new.failed → old.failed

-- they are a file, which holds this
pub record HoldsFile (old new : SourceAt) (file : FileContents) : Type 0 where
  pub bytes : List ℕ
  pub gives : HasGiven old new bytes
  pub opens : opened None bytes ≡ Ok (file_state bytes, file.gate)
  pub node : file.node ≡ (file_state bytes).node
  pub life : file.life ≡ (file_state bytes).contents.life
  pub table : file.table ≡ (file_state bytes).contents.table
  pub changed_gate : file.changed_gate ≡ changed_gate bytes

-- they are none, by their first fault
pub record HoldsNoFile (old new : SourceAt) (fault : FileFault) : Type 0 where
  pub bytes : List ℕ
  pub gives : HasGiven old new bytes
  pub refused : opened None bytes ≡ Err fault

-- so it is, or the reader failed
abbrev pub RefusesFile : (old new : SourceAt) → FileFault → Type 0
RefusesFile old new fault = HoldsNoFile old new fault ⊎ ((fault ≡ Device) × new.failed)

-- ---- what private functions cite

-- what the reader gave was pushed
pub record PushesPieces (reader_old reader_new : SourceAt) (old new : Came) : Type 0 where
  pub bytes : List ℕ
  pub consumed : Consumes reader_old.remaining reader_new.remaining bytes
  pub told : (following : List ℕ) → tells new following ≡ tells old (bytes ++ following)
  pub warned : (following : List ℕ) → warns new following ≡ warns old (bytes ++ following)
  pub sound : reader_new.failed → reader_old.failed

-- all there is, or until no byte that follows counts
pub record PushesEnough (reader_old reader_new : SourceAt) (old new : Came) : Type 0 where
  pub pieces : PushesPieces reader_old reader_new old new
  pub enough : IsAtEnd reader_new.remaining
      ⊎ ((following : List ℕ) → (tells new following ≡ tells new [])
      × (warns new following ≡ warns new []))
