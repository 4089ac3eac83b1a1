-- What is told of a file by the bytes that follow what came of it. The rule is our own.
use Rattle.std.specs.Prelude.{◌≡◌, ℕ, ◌-◌, ◌<◌, ◌≤◌, List, ◌++◌, length, drop, Option, Some, None, Result, Ok, Err, if◌then◌else◌}
use Rattle.node_file.specs.declared.fault.FileFault.{FileFault}
use Rattle.node_file.specs.File.{FileState, opened}
use Rattle.node_file.specs.Gates.{shows_changed_gate}
use Rattle.file_pieces.specs.declared.stage.Stage.{Stage}
use Rattle.file_pieces.specs.declared.stage.Stage.TheVariants.{Front, Records, Ended, Refused}
use Rattle.file_pieces.specs.Framing.{IsShut, IsUnfinished}
use Rattle.file_pieces.specs.Progress.{ReadSoFar, told_of}

-- what came of a file: how far it was read, and what stands behind that
pub record Came : Type 0 where
  pub stage : Stage
  pub rest : List ℕ

abbrev pub state_of : ReadSoFar → FileState
state_of p = record { version = p.version; node = p.node; contents = p.contents }

-- what is told of a file that goes on with these bytes
abbrev pub told : Stage → List ℕ → Result (FileState × ℕ) FileFault
told (Front asked) bytes = opened asked bytes
told (Records p) bytes = told_of p bytes
told (Ended p) bytes = Ok (state_of p, p.at)
told (Refused fault) bytes = Err fault

-- what is told of a file of which that came, and then just these bytes
abbrev pub tells : Came → List ℕ → Result (FileState × ℕ) FileFault
tells came following = told came.stage (came.rest ++ following)

-- ---- a closed gate that was changed on the disk

-- how many bytes were read
abbrev pub count_read : Stage → ℕ
count_read (Front asked) = 0
count_read (Records p) = p.at
count_read (Ended p) = p.at
count_read (Refused fault) = 0

-- this offset of a closed gate, if the bytes from it on show that it was changed
abbrev pub gate_if_changed : ℕ → ℕ → List ℕ → Option ℕ
gate_if_changed version gate bytes = if shows_changed_gate version bytes then Some gate else None

-- of a file of which that is told, and whose bytes from the offset `here` on are these: the offset
-- of its closed gate, if that shows that it was changed; nothing if the file is refused
abbrev pub warning : ℕ → List ℕ → Result (FileState × ℕ) FileFault → Option ℕ
warning here bytes (Ok file) = gate_if_changed file.0.version file.1 (drop (file.1 - here) bytes)
warning here bytes (Err fault) = None

-- the same of a file that goes on with these bytes
abbrev pub warned : Stage → List ℕ → Option ℕ
warned stage bytes = warning (count_read stage) bytes (told stage bytes)

-- the same of a file of which that came, and then just these bytes
abbrev pub warns : Came → List ℕ → Option ℕ
warns came following = warned came.stage (came.rest ++ following)

-- ---- reading on

-- of these bytes nothing more can be read
pub record IsWaiting (stage : Stage) (bytes : List ℕ) : Type 0 where
  pub front : (asked : Option ℕ) → stage ≡ Front asked → length bytes < 11
  pub records : (p : ReadSoFar) → stage ≡ Records p → IsUnfinished bytes
  pub ended : (p : ReadSoFar) → stage ≡ Ended p → IsShut bytes

-- the first `read` of the bytes were read: what is told by what follows is what was told by them
-- all, of a changed gate too, and of the others nothing more can be read
pub record HasRead (old new : Stage) (read : ℕ) (bytes : List ℕ) : Type 0 where
  pub within : read ≤ length bytes
  pub tells : (following : List ℕ)
      → told new (drop read bytes ++ following) ≡ told old (bytes ++ following)
  pub warns : (following : List ℕ)
      → warned new (drop read bytes ++ following) ≡ warned old (bytes ++ following)
  pub waits : IsWaiting new (drop read bytes)
