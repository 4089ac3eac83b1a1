-- What was printed of what a reader gave, which may be the file of a node.
use Rattle.std.specs.Prelude.{◌≡◌, ◌⊎◌, ℕ, List, Bool, true, false}
use Rattle.std.specs.Io.KnownBytes.{Appends, Keeps}
use Rattle.file_pieces.specs.declared.progress.FileContents.{FileContents}
use Rattle.node_file.specs.declared.fault.FileFault.{FileFault}
use Rattle.node_file.specs.declared.fault.FileFault.TheVariants as files
use Rattle.streams.specs.declared.fault.StreamFault.{StreamFault}
use Rattle.streams.specs.declared.fault.StreamFault.TheVariants.{Memory}
use Rattle.streams.specs.Fault.{FailsNoMore, IsWriterFault}
use Rattle.streams.specs.Moment.{SinkAt, SourceAt}
use Rattle.streams.specs.Written.{AppendsFront}
use Rattle.plumctl_file.specs.declared.report.Reported.{Reported}
use Rattle.plumctl_file.specs.declared.report.Reported.TheVariants.{Shown, Refused, Stopped}
use Rattle.plumctl_file.specs.Read.{HoldsFile, RefusesFile}
use Rattle.plumctl_file.specs.Report.{refusal_line, report_text}

-- ---- what a writer was given

-- the text was written to a writer that has not failed anew, and passed on
pub record WritesOut (old new : SinkAt) (text : List ℕ) : Type 0 where
  pub appended : Appends old.contents new.contents text
  pub passed : new.passed_on
  pub sound : FailsNoMore old.failed new.failed

-- a front of the text was written, and the writer failed
pub record WritesFront (old new : SinkAt) (text : List ℕ) (fault : StreamFault) : Type 0 where
  pub appended : AppendsFront old.contents new.contents text
  pub cause : IsWriterFault old.failed new.failed fault

-- a writer was given nothing, and has not failed anew
pub record IsQuiet (old new : SinkAt) : Type 0 where
  pub kept : Keeps old.contents new.contents
  pub sound : FailsNoMore old.failed new.failed

-- ---- what was printed of a reader

-- the report of a file
abbrev pub whole_report : FileContents → List ℕ
whole_report file = report_text file.node file.life file.table

-- How a report stops: memory ran out before anything was written; or the writer failed after a front
-- of the report of the file, or of the line of its refusal.
pub data StopsReport (reader_old reader_new : SourceAt) (old new : SinkAt) (fault : StreamFault) :
    Type 0 where
  Unprinted : fault ≡ Memory → IsQuiet old new
      → StopsReport reader_old reader_new old new fault
  InReport : (file : FileContents) → HoldsFile reader_old reader_new file
      → WritesFront old new (whole_report file) fault
      → StopsReport reader_old reader_new old new fault
  InRefusal : (refusal : FileFault) → RefusesFile reader_old reader_new refusal
      → WritesFront old new (refusal_line refusal) fault
      → StopsReport reader_old reader_new old new fault

abbrev pub PrintsReport : (reader_old reader_new : SourceAt) → (old new : SinkAt) → Reported
    → Type 0
PrintsReport reader_old reader_new old new (Shown file) =
    HoldsFile reader_old reader_new file × WritesOut old new (whole_report file)
PrintsReport reader_old reader_new old new (Refused fault) =
    RefusesFile reader_old reader_new fault × WritesOut old new (refusal_line fault)
PrintsReport reader_old reader_new old new (Stopped fault) =
    StopsReport reader_old reader_new old new fault

-- ---- a refusal

abbrev pub is_memory : FileFault → Bool
is_memory files.Memory = true
is_memory fault = false

-- How the line of a refusal isn't printed: memory ran out before anything was written, and so it is
-- if that is the refusal; or the writer failed after a front of the line.
pub record StopsRefusal (refusal : FileFault) (old new : SinkAt) (fault : StreamFault) : Type 0 where
  pub stops : ((fault ≡ Memory) × IsQuiet old new)
      ⊎ ((is_memory refusal ≡ false) × WritesFront old new (refusal_line refusal) fault)
