-- How `plumctl file` ends for who started it: its exit status, and what is printed at standard
-- error.
--
-- The statuses: 0 done, 1 the bytes are no file, or one with too many keys, or one whose closed
-- gate shows that it was changed, 3 a path couldn't be opened, or reading or writing failed, 4
-- memory ran out. Wrong arguments, with status 2, start nothing.
use Rattle.std.specs.Prelude.{◌≡◌, ◌⊎◌, ℕ, nat_eq, if◌then◌else◌, List, [], ◌∷◌, Result, Ok, Err, MatchBool, codes}
use Rattle.devices.specs.Device.{HasFailed, IsDurable}
use Rattle.devices.specs.declared.opening.OpenFault.{OpenFault}
use Rattle.devices.specs.declared.opening.OpenFault.TheVariants as opening
use Rattle.node_file.specs.declared.fault.FileFault.{FileFault}
use Rattle.node_file.specs.declared.fault.FileFault.TheVariants as files
use Rattle.node_file.specs.Clean.{clean_bytes}
use Rattle.node_file.specs.File.{StandsFor, new_state}
use Rattle.streams.specs.declared.fault.StreamFault.{StreamFault}
use Rattle.streams.specs.declared.fault.StreamFault.TheVariants as streams
use Rattle.streams.specs.Moment.{SinkAt, SourceAt}
use Rattle.scenario_commands.specs.Printed.{line}
use Rattle.plumctl_core.specs.Opening.{TellsText, cause_line}
use Rattle.plumctl_core.specs.Status.{TellsFault, status_of_fault}
use Rattle.file_pieces.specs.declared.progress.FileContents.{FileContents}
use Rattle.plumctl_file.specs.declared.report.Reported.{Reported}
use Rattle.plumctl_file.specs.declared.report.Reported.TheVariants.{Shown, Refused, Stopped}
use Rattle.plumctl_file.specs.Report.{refusal_line, warning_of}
use Rattle.plumctl_file.specs.Reported.{IsQuiet, WritesOut, WritesFront, PrintsReport, is_memory}

-- standard output and standard error at a moment
pub record Outputs : Type 1 where
  pub writer : SinkAt
  pub errors : SinkAt

-- ---- what is said at standard error about a path

-- why it couldn't be opened to be read (99 `Memory` has a line of its own; and a reading is never
-- refused because something is there already)
abbrev pub cause_of_path : OpenFault → List ℕ
cause_of_path opening.Memory = []
cause_of_path opening.Missing = codes "not found"
cause_of_path opening.Exists = codes "is there already"
cause_of_path opening.NotAFile = codes "is no regular file"
cause_of_path opening.InUse = codes "is in use by a node, or is being written"
cause_of_path opening.Linked = codes "has a second name, a hard link"
cause_of_path opening.Failed = codes "may not be read or locked, or the disk failed"

-- why nothing could be made there
abbrev pub cause_of_unmade : OpenFault → List ℕ
cause_of_unmade opening.Memory = []
cause_of_unmade opening.Missing = codes "its folder is not there"
cause_of_unmade opening.Exists = codes "is there already, and nothing is written over"
cause_of_unmade opening.NotAFile = codes "is no regular file"
cause_of_unmade opening.InUse = codes "is in use, or another process makes it"
cause_of_unmade opening.Linked = codes "has a second name, a hard link"
cause_of_unmade opening.Failed = codes "may not be made or locked, or the disk failed"

abbrev pub write_failed : List ℕ
write_failed = codes "could not be written"

-- why bytes are refused: of a reader that failed; and of bytes that are damaged at 0, which are
-- those that `begins_otherwise` (`laws::damage_at_0_is_another_beginning`)
abbrev pub cause_of : FileFault → List ℕ
cause_of files.Device = codes "could not be read"
cause_of (files.Damaged at) =
    if nat_eq at 0 then codes "does not begin as a node file does; is this the right path?" else []
cause_of fault = []

-- ---- a device that failed, or couldn't be opened

-- its line was printed, and this at standard error
pub record PrintsDevice (told_line : List ℕ) (old new : Outputs) (status : ℕ) : Type 0 where
  pub status_is : status ≡ 3
  pub prints : WritesOut old.writer new.writer (refusal_line files.Device)
  pub told : TellsText old.errors new.errors told_line

-- or the writer failed after a front of the line, which was reported
pub record StopsAtDevice (old new : Outputs) (status : ℕ) : Type 0 where
  pub fault : StreamFault
  pub status_is : status ≡ status_of_fault fault
  pub stops : WritesFront old.writer new.writer (refusal_line files.Device) fault
  pub told : TellsFault old.errors new.errors fault

abbrev pub EndsWithDevice : List ℕ → (old new : Outputs) → ℕ → Type 0
EndsWithDevice told_line old new status =
    PrintsDevice told_line old new status ⊎ StopsAtDevice old new status

-- nothing was printed, and 99 `Memory` was reported
pub record EndsWithMemory (old new : Outputs) (status : ℕ) : Type 0 where
  pub status_is : status ≡ 4
  pub quiet : IsQuiet old.writer new.writer
  pub told : TellsFault old.errors new.errors streams.Memory

-- the path of this name couldn't be opened
abbrev pub EndsUnopened : (OpenFault → List ℕ) → (name : List ℕ) → OpenFault
    → (old new : Outputs) → ℕ → Type 0
EndsUnopened cause name opening.Memory old new status = EndsWithMemory old new status
EndsUnopened cause name fault old new status =
    EndsWithDevice (cause_line name (cause fault)) old new status

-- ---- `file`

abbrev pub status_of_refusal : FileFault → ℕ
status_of_refusal files.Device = 3
status_of_refusal files.Memory = 4
status_of_refusal fault = 1

-- the status of a refusal, and what is printed at standard error: nothing if it has no cause,
-- otherwise the path of this name and the cause
abbrev pub TellsRefusal : (name cause : List ℕ) → ℕ → (old new : SinkAt) → ℕ → Type 0
TellsRefusal name [] refused old new status = (status ≡ refused) × IsQuiet old new
TellsRefusal name (byte ∷ bytes) refused old new status =
    (status ≡ refused) × TellsText old new (cause_line name (byte ∷ bytes))

-- the status of a file that was shown, and what is printed at standard error: 0 and nothing, or 1
-- and the warning of it
abbrev pub TellsWarning : (warning : List ℕ) → (old new : SinkAt) → ℕ → Type 0
TellsWarning [] old new status = (status ≡ 0) × IsQuiet old new
TellsWarning (byte ∷ bytes) old new status = (status ≡ 1) × TellsText old new (byte ∷ bytes)

-- the status of a report, and what is printed at standard error: the warning of a file that was
-- shown, the cause of a refusal, and a fault that stopped the report
abbrev pub TellsReport : (name : List ℕ) → (old new : SinkAt) → Reported → ℕ → Type 0
TellsReport name old new (Shown file) status =
    TellsWarning (warning_of file.changed_gate) old new status
TellsReport name old new (Refused fault) status =
    TellsRefusal name (cause_of fault) (status_of_refusal fault) old new status
TellsReport name old new (Stopped fault) status =
    (status ≡ status_of_fault fault) × TellsFault old new fault

-- how `file` ends, of what a reader gave that stands at the path of this name
pub record EndsFile (name : List ℕ) (reader_old reader_new : SourceAt) (old new : Outputs)
    (status : ℕ) (reported : Reported) : Type 0 where
  pub printed : PrintsReport reader_old reader_new old.writer new.writer reported
  pub told : TellsReport name old.errors new.errors reported status

-- ---- `file --rewrite`, of a file that was shown

-- the target is the clean copy of the file that was shown, and every crash leaves it
pub record FinishesRewrite (bytes : List ℕ) (may_leave : List ℕ → Type 0) (file : FileContents)
    (old new : Outputs) (status : ℕ) : Type 0 where
  pub status_is : status ≡ 0
  pub stands : StandsFor (new_state file.node file.life file.table) bytes
  pub spelled : bytes ≡ clean_bytes file.node file.life file.table
  pub durable : IsDurable bytes may_leave
  pub unprinted : IsQuiet old.writer new.writer
  pub quiet : IsQuiet old.errors new.errors

-- what is printed about the copy at the path `out`, by how making it ended
abbrev pub EndsCopy : (out : List ℕ) → Result Unit FileFault → (old new : Outputs) → ℕ → Type 0
EndsCopy out (Ok made) old new status = (status ≡ 0)
    × (IsQuiet old.writer new.writer × IsQuiet old.errors new.errors)
EndsCopy out (Err fault) old new status = MatchBool (is_memory fault)
    (EndsWithMemory old new status) (EndsWithDevice (cause_line out write_failed) old new status)

-- the target failed, or memory ran out
abbrev pub FailsRewrite : (out : List ℕ) → (before now : ℕ) → (old new : Outputs) → ℕ → Type 0
FailsRewrite out before now old new status =
    (HasFailed before now × EndsWithDevice (cause_line out write_failed) old new status)
    ⊎ ((now ≡ before) × EndsWithMemory old new status)

-- the error if one was asked for of a file that was shown with a warning
abbrev pub no_copy : List ℕ
no_copy = line (codes "error: no copy is made, since it would lack those records")

-- none is made of such a file
pub record RefusesCopy (old new : Outputs) (status : ℕ) : Type 0 where
  pub status_is : status ≡ 1
  pub unprinted : IsQuiet old.writer new.writer
  pub told : TellsText old.errors new.errors no_copy

-- how it ends, by what its target then holds, what a crash may leave of it, and how often it had
-- failed before and has now
abbrev pub EndsRewrite : (out : List ℕ) → FileContents → List ℕ → (List ℕ → Type 0)
    → (before now : ℕ) → (old new : Outputs) → ℕ → Type 0
EndsRewrite out file bytes may_leave before now old new status =
    FinishesRewrite bytes may_leave file old new status
    ⊎ FailsRewrite out before now old new status
