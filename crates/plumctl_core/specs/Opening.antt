-- What is printed at standard error: a text; and about a path that is of no use, its name and the
-- cause, and before that, for a file that is to be read as a text, the line for input that can't be
-- read.
use Rattle.std.specs.Prelude.{◌≡◌, ◌≢◌, ◌⊎◌, ℕ, List, [], ◌∷◌, ◌++◌, map, Result, Ok, Err, codes}
use Rattle.std.specs.Io.KnownBytes.{Appends}
use Rattle.std.specs.declared.io.ErrorKind.{ErrorKind}
use Rattle.std.specs.declared.io.ErrorKind.TheVariants as kinds
use Rattle.streams.specs.declared.fault.StreamFault.{StreamFault}
use Rattle.streams.specs.declared.fault.StreamFault.TheVariants.{Read, Memory}
use Rattle.streams.specs.Fault.{FailsNoMore, IsWriterFault}
use Rattle.streams.specs.Moment.{SinkAt}
use Rattle.streams.specs.Written.{AppendsFront}
use Rattle.scenario_text.specs.Hint.{shown_byte}
use Rattle.plumctl_core.specs.Status.{TellsFault, TellsFront, line_of_fault, status_of_fault}

-- the cause, by the kind of the error
abbrev pub cause_of_kind : ErrorKind → List ℕ
cause_of_kind kinds.NotFound = codes "not found"
cause_of_kind kinds.NotADirectory = codes "not found, since a part of its path is no folder"
cause_of_kind kinds.PermissionDenied = codes "may not be read"
cause_of_kind kinds.IsADirectory = codes "is a folder"
cause_of_kind kinds.FilesystemLoop = codes "is a link that leads in a circle"
cause_of_kind kinds.InvalidFilename = codes "the name is too long, or none of a file"
cause_of_kind kind = codes "could not be opened"

-- bytes, with `?` for those that can't be printed
abbrev pub shown_text : List ℕ → List ℕ
shown_text bytes = map shown_byte bytes

-- the line that names a path, and says why it is of no use
abbrev pub cause_line : (name cause : List ℕ) → List ℕ
cause_line name cause =
    codes "cause: " ++ (shown_text name ++ (codes ": " ++ (cause ++ 10 ∷ [])))

-- the two lines that are printed
abbrev pub unopened_text : List ℕ → ErrorKind → List ℕ
unopened_text name kind = line_of_fault Read ++ cause_line name (cause_of_kind kind)

-- a text was printed at standard error, which has failed no more; or a front of it was, and
-- standard error failed
abbrev pub TellsText : (errors_old errors_new : SinkAt) → List ℕ → Type 0
TellsText errors_old errors_new text =
    (Appends errors_old.contents errors_new.contents text
    × FailsNoMore errors_old.failed errors_new.failed)
    ⊎ TellsFront errors_old errors_new text

-- how a command ends whose file of this name can't be opened: the two lines were printed, with 3;
-- or 99 `Memory`, with 4, if the error is one of memory
abbrev pub EndsAtOpening : List ℕ → ErrorKind → (errors_old errors_new : SinkAt) → ℕ → Type 0
EndsAtOpening name kind errors_old errors_new status =
    ((kind ≢ kinds.OutOfMemory) × (status ≡ status_of_fault Read)
    × TellsText errors_old errors_new (unopened_text name kind))
    ⊎ ((kind ≡ kinds.OutOfMemory) × (status ≡ status_of_fault Memory)
    × TellsFault errors_old errors_new Memory)

-- ---- what private functions cite

-- the text was written, by a writer that has failed no more; or a front of it was, and the writer
-- failed
abbrev pub WritesText : (old new : SinkAt) → List ℕ → Result Unit StreamFault → Type 0
WritesText old new text (Ok done) =
    Appends old.contents new.contents text × FailsNoMore old.failed new.failed
WritesText old new text (Err fault) =
    AppendsFront old.contents new.contents text × IsWriterFault old.failed new.failed fault
