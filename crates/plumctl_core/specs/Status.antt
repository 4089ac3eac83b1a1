-- How a run ends for who started the program: the exit status, and what is printed at standard
-- error.
--
-- The statuses: 0 done, 1 a line was refused or the input is too long, 3 a fault of reading or
-- writing, 4 memory ran out. Wrong arguments, with status 2, start no run.
use Rattle.std.specs.Prelude.{◌≡◌, ◌⊎◌, ℕ, List, [], ◌∷◌, ◌++◌, Option, codes}
use Rattle.std.specs.Io.KnownBytes.{Appends, Keeps}
use Rattle.streams.specs.declared.fault.StreamFault.{StreamFault}
use Rattle.streams.specs.declared.fault.StreamFault.TheVariants.{Read, InputTooLong, Write, BrokenPipe, Memory}
use Rattle.streams.specs.Fault.{FailsNoMore, IsWriterFault}
use Rattle.streams.specs.Moment.{SinkAt, SourceAt}
use Rattle.streams.specs.Written.{AppendsFront}
use Rattle.sealed_frames.specs.declared.key.Keys.{Keys}
use Rattle.plumctl_core.specs.declared.frame.Ended.{Ended}
use Rattle.plumctl_core.specs.declared.frame.Ended.TheVariants.{AllPrinted, SomeRefused}
use Rattle.plumctl_core.specs.Run.{PrintsFrames, Stops}

abbrev pub status_of_end : Ended → ℕ
status_of_end AllPrinted = 0
status_of_end SomeRefused = 1

abbrev pub status_of_fault : StreamFault → ℕ
status_of_fault Read = 3
status_of_fault InputTooLong = 1
status_of_fault Write = 3
status_of_fault BrokenPipe = 3
status_of_fault Memory = 4

-- the line that reports a fault; a broken pipe isn't reported
abbrev pub line_of_fault : StreamFault → List ℕ
line_of_fault Read = codes "error 7 Read" ++ 10 ∷ []
line_of_fault InputTooLong = codes "error 8 InputTooLong" ++ 10 ∷ []
line_of_fault Write = codes "error: the output could not be written" ++ 10 ∷ []
line_of_fault BrokenPipe = []
line_of_fault Memory = codes "error 99 Memory" ++ 10 ∷ []

-- a front of the line was printed, and standard error failed
pub record TellsFront (errors_old errors_new : SinkAt) (line : List ℕ) : Type 0 where
  pub told : AppendsFront errors_old.contents errors_new.contents line
  pub why : StreamFault
  pub cause : IsWriterFault errors_old.failed errors_new.failed why

-- the fault was printed at standard error, as far as that takes it
abbrev pub TellsFault : (errors_old errors_new : SinkAt) → StreamFault → Type 0
TellsFault errors_old errors_new fault =
    Appends errors_old.contents errors_new.contents (line_of_fault fault)
    ⊎ TellsFront errors_old errors_new (line_of_fault fault)

-- a run of `frame` printed its whole input, over a reader and a writer that have not failed anew,
-- and nothing was printed at standard error
pub record FinishesFrames (keys : Option Keys) (reader_old reader_new : SourceAt)
    (writer_old writer_new errors_old errors_new : SinkAt) (status : ℕ) : Type 0 where
  pub ended : Ended
  pub status_is : status ≡ status_of_end ended
  pub kept : Keeps errors_old.contents errors_new.contents
  pub read_sound : reader_new.failed → reader_old.failed
  pub write_sound : FailsNoMore writer_old.failed writer_new.failed
  pub prints : PrintsFrames keys reader_old reader_new writer_old writer_new ended

-- or a fault stopped it, which was reported
pub record StopsFrames (keys : Option Keys) (reader_old reader_new : SourceAt)
    (writer_old writer_new errors_old errors_new : SinkAt) (status : ℕ) : Type 0 where
  pub fault : StreamFault
  pub status_is : status ≡ status_of_fault fault
  pub told : TellsFault errors_old errors_new fault
  pub stops : Stops keys reader_old reader_new writer_old writer_new fault

-- how a run of `frame` ends
abbrev pub EndsFrames : Option Keys → (reader_old reader_new : SourceAt)
    → (writer_old writer_new errors_old errors_new : SinkAt) → (status : ℕ) → Type 0
EndsFrames keys reader_old reader_new writer_old writer_new errors_old errors_new status =
    FinishesFrames keys reader_old reader_new writer_old writer_new errors_old errors_new status
    ⊎ StopsFrames keys reader_old reader_new writer_old writer_new errors_old errors_new status
