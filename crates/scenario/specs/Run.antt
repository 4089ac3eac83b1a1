-- How a run over a reader and a writer ends.
use Rattle.std.specs.Prelude.{◌≡◌, ◌<◌, ◌≤◌, ◌⊎◌, ℕ, Bool, MatchBool, List, [], ◌∷◌, ◌++◌, length, Option, Some, None, Result, Ok, Err}
use Rattle.std.specs.Io.KnownBytes.{Appends, Consumes, IsAtEnd, Keeps}
use Rattle.streams.specs.declared.fault.StreamFault.{StreamFault}
use Rattle.streams.specs.Fault.{FailsNoMore, IsReadFault, IsWriteFault}
use Rattle.streams.specs.Line.{input_limit}
use Rattle.streams.specs.Moment.{SinkAt, SourceAt}
use Rattle.streams.specs.Written.{AppendsFront}
use Rattle.scenario.specs.declared.fault.ScenarioFault.{ScenarioFault}
use Rattle.scenario.specs.declared.fault.ScenarioFault.TheVariants.{BadLine, Limit, Stream}
use Rattle.scenario_text.specs.Commands.{Command}
use Rattle.scenario_commands.specs.Obeying.{PassesLimit, Stage, new_stage}
use Rattle.scenario.specs.Output.{BeginsNext, PlaysCommand, IsFrontOfOutput, IsFrontOfPlay, IsOutput, Manner, ObeyAll, RunsFront}
use Rattle.scenario_commands.specs.declared.fault.StageFault.{StageFault}
use Rattle.scenario_commands.specs.declared.fault.StageFault.TheVariants as stages
use Rattle.scenario_text.specs.Script.{Scenario, commands_of, first_bad, scenario_of}

-- ---- of a text

-- the output was written and passed on, by a writer that has failed in no new way
pub record Prints (manner : Manner) (text : List ℕ) (writer_old writer_new : SinkAt)
    (ended : Option ScenarioFault) : Type 0 where
  pub output : List ℕ
  pub output_is : IsOutput manner text output ended
  pub appended : Appends writer_old.contents writer_new.contents output
  pub passed : writer_new.passed_on
  pub sound : FailsNoMore writer_old.failed writer_new.failed

-- a front of it was written, and the fault has its cause
pub record StopsPrinting (manner : Manner) (text : List ℕ) (writer_old writer_new : SinkAt)
    (fault : StreamFault) : Type 0 where
  pub output : List ℕ
  pub front : IsFrontOfOutput manner text output
  pub appended : Appends writer_old.contents writer_new.contents output
  pub cause : IsWriteFault writer_old.failed writer_new.failed fault

-- how the run of a text ends: with a bad line or at the limit it was whole
abbrev pub EndsText : Manner → List ℕ → (writer_old writer_new : SinkAt) → ScenarioFault → Type 0
EndsText manner text writer_old writer_new (Stream fault) =
    StopsPrinting manner text writer_old writer_new fault
EndsText manner text writer_old writer_new fault =
    Prints manner text writer_old writer_new (Some fault)

-- ---- of a reader

-- the whole input was read, which is within the limit, from a reader that has not newly failed
pub record ReadsAll (reader_old reader_new : SourceAt) (text : List ℕ) : Type 0 where
  pub consumed : Consumes reader_old.remaining reader_new.remaining text
  pub end : IsAtEnd reader_new.remaining
  pub within : length text ≤ input_limit
  pub sound : reader_new.failed → reader_old.failed

-- the cause of a fault of reading, if `count` bytes were read: the reader failed within the limit,
-- or gave more without newly failing, or memory ran out before either
abbrev pub StopsAfter : (failed_old failed_new : Type 0) → ℕ → StreamFault → Type 0
StopsAfter failed_old failed_new count fault =
    IsReadFault (failed_new × (count ≤ input_limit))
    ((failed_new → failed_old) × (input_limit < count))
    ((failed_new → failed_old) × (count ≤ input_limit)) fault

-- a part of the input was read, until the fault of reading, which has its cause
pub record ReadsPart (reader_old reader_new : SourceAt) (fault : StreamFault) : Type 0 where
  pub bytes : List ℕ
  pub consumed : Consumes reader_old.remaining reader_new.remaining bytes
  pub cause : StopsAfter reader_old.failed reader_new.failed (length bytes) fault

-- the input was read, and its run ended so
pub record EndsRun (manner : Manner) (reader_old reader_new : SourceAt)
    (writer_old writer_new : SinkAt) (fault : ScenarioFault) : Type 0 where
  pub text : List ℕ
  pub reads : ReadsAll reader_old reader_new text
  pub ends : EndsText manner text writer_old writer_new fault

-- or the reading was stopped, and then nothing was written
pub record EndsReading (reader_old reader_new : SourceAt) (writer_old writer_new : SinkAt)
    (fault : ScenarioFault) : Type 0 where
  pub by_stream : StreamFault
  pub is : fault ≡ Stream by_stream
  pub stops : ReadsPart reader_old reader_new by_stream
  pub kept : Keeps writer_old.contents writer_new.contents

-- how a run ends before its last command, or without its last write
abbrev pub EndsEarly : Manner → (reader_old reader_new : SourceAt)
    → (writer_old writer_new : SinkAt) → ScenarioFault → Type 0
EndsEarly manner reader_old reader_new writer_old writer_new fault =
    EndsRun manner reader_old reader_new writer_old writer_new fault
    ⊎ EndsReading reader_old reader_new writer_old writer_new fault

-- the whole input was read, and its output was written and passed on
pub record PrintsAll (manner : Manner) (reader_old reader_new : SourceAt)
    (writer_old writer_new : SinkAt) : Type 0 where
  pub text : List ℕ
  pub reads : ReadsAll reader_old reader_new text
  pub prints : Prints manner text writer_old writer_new None

-- ---- of the line of a fault

-- a front of a line was written, and the fault has its cause
pub record EndsLine (text : List ℕ) (writer_old writer_new : SinkAt) (fault : StreamFault)
    : Type 0 where
  pub appended : AppendsFront writer_old.contents writer_new.contents text
  pub cause : IsWriteFault writer_old.failed writer_new.failed fault

-- a whole line was written and passed on
pub record WritesEnd (text : List ℕ) (writer_old writer_new : SinkAt) : Type 0 where
  pub appended : Appends writer_old.contents writer_new.contents text
  pub passed : writer_new.passed_on
  pub sound : FailsNoMore writer_old.failed writer_new.failed

-- ---- what a runner does

-- what is printed of `nodes` was added
pub record Opens (opens : List ℕ → Type 0) (text_old text_new : List ℕ) : Type 0 where
  pub opened : List ℕ
  pub is : opens opened
  pub added : text_new ≡ text_old ++ opened

-- a command was obeyed, and what is printed of it was added; or it passes the limit, or memory ran
-- out, and then nothing is said of text and stage
abbrev pub DoesOrEnds : PlaysCommand → Stage → Command → (text_old text_new : List ℕ) → Stage
    → Result Unit StageFault → Type 0
DoesOrEnds does old command text_old text_new new (Ok done) = (added : List ℕ)
    × does old command added new × (text_new ≡ text_old ++ added)
DoesOrEnds does old command text_old text_new new (Err stages.Limit) = PassesLimit old command
DoesOrEnds does old command text_old text_new new (Err stages.Memory) = Unit {0}

-- ---- what private functions cite

-- what is printed of `nodes` was written
pub record WritesOpening (opens : List ℕ → Type 0) (writer_old writer_new : SinkAt) : Type 0 where
  pub opened : List ℕ
  pub is : opens opened
  pub appended : Appends writer_old.contents writer_new.contents opened

-- or a front of it was written, or nothing
pub record EndsOpening (opens : List ℕ → Type 0) (writer_old writer_new : SinkAt)
    (fault : StreamFault) : Type 0 where
  pub front : List ℕ
  pub begins : (front ≡ [])
      ⊎ ((opened : List ℕ) × (more : List ℕ) × opens opened × (opened ≡ front ++ more))
  pub appended : Appends writer_old.contents writer_new.contents front
  pub cause : IsWriteFault writer_old.failed writer_new.failed fault

-- one read gave some bytes, which were added within the limit, or the reader is at its end
pub record AddsPiece (reader_old reader_new : SourceAt) (text_old text_new : List ℕ)
    (more : Bool) : Type 0 where
  pub bytes : List ℕ
  pub consumed : Consumes reader_old.remaining reader_new.remaining bytes
  pub added : text_new ≡ text_old ++ bytes
  pub within : length text_new ≤ input_limit
  pub answer : MatchBool more (0 < length bytes) ((bytes ≡ []) × IsAtEnd reader_new.remaining)

-- one read failed, or gave more than there is room for, or memory ran out
pub record StopsPiece (reader_old reader_new : SourceAt) (text_old : List ℕ)
    (fault : StreamFault) : Type 0 where
  pub bytes : List ℕ
  pub consumed : Consumes reader_old.remaining reader_new.remaining bytes
  pub cause : StopsAfter reader_old.failed reader_new.failed (length (text_old ++ bytes)) fault

-- a command was obeyed, and what it prints was written
pub record WritesCommand (manner : Manner) (old : Stage) (command : Command)
    (writer_old writer_new : SinkAt) (new : Stage) : Type 0 where
  pub added : List ℕ
  pub obeys : manner.does old command added new
  pub appended : Appends writer_old.contents writer_new.contents added

-- nothing of it was written, or a front
pub record StopsCommand (manner : Manner) (old : Stage)
    (command : Command) (writer_old writer_new : SinkAt) (fault : StreamFault)
    : Type 0 where
  pub begun : List ℕ
  pub begins : BeginsNext manner old (command ∷ []) begun
  pub appended : Appends writer_old.contents writer_new.contents begun
  pub cause : IsWriteFault writer_old.failed writer_new.failed fault

-- how one command ends a run
abbrev pub EndsCommand : Manner → Stage → Command
    → (writer_old writer_new : SinkAt) → ScenarioFault → Type 0
EndsCommand manner old command writer_old writer_new (BadLine number) = ⊥
EndsCommand manner old command writer_old writer_new Limit =
    PassesLimit old command × Appends writer_old.contents writer_new.contents []
    × FailsNoMore writer_old.failed writer_new.failed
EndsCommand manner old command writer_old writer_new (Stream fault) =
    StopsCommand manner old command writer_old writer_new fault

-- commands were all obeyed, and what they print was written
pub record WritesAll (manner : Manner) (old : Stage) (commands : List Command)
    (writer_old writer_new : SinkAt) : Type 0 where
  pub text : List ℕ
  pub new : Stage
  pub obeyed : ObeyAll manner old commands text new
  pub appended : Appends writer_old.contents writer_new.contents text

-- they were obeyed up to a settling that passes its limit, and nothing of it was written
pub record WritesToLimit (manner : Manner) (old : Stage) (commands : List Command)
    (writer_old writer_new : SinkAt) : Type 0 where
  pub done : List Command
  pub last : Command
  pub left : List Command
  pub commands_are : commands ≡ done ++ last ∷ left
  pub text : List ℕ
  pub stage : Stage
  pub obeyed : ObeyAll manner old done text stage
  pub limit : PassesLimit stage last
  pub appended : Appends writer_old.contents writer_new.contents text

-- a front of what they print was written
pub record StopsCommands (manner : Manner) (old : Stage)
    (commands : List Command) (writer_old writer_new : SinkAt) (fault : StreamFault)
    : Type 0 where
  pub text : List ℕ
  pub front : RunsFront manner old commands text
  pub appended : Appends writer_old.contents writer_new.contents text
  pub cause : IsWriteFault writer_old.failed writer_new.failed fault

-- how a run of commands ends before the last
abbrev pub EndsCommands : Manner → Stage → List Command
    → (writer_old writer_new : SinkAt) → ScenarioFault → Type 0
EndsCommands manner old commands writer_old writer_new (BadLine number) = ⊥
EndsCommands manner old commands writer_old writer_new Limit =
    WritesToLimit manner old commands writer_old writer_new
    × FailsNoMore writer_old.failed writer_new.failed
EndsCommands manner old commands writer_old writer_new (Stream fault) =
    StopsCommands manner old commands writer_old writer_new fault

-- the commands of a scenario were all obeyed, and what they print was written
pub record PlaysAll (manner : Manner) (scenario : Scenario)
    (writer_old writer_new : SinkAt) : Type 0 where
  pub opened : List ℕ
  pub opens : manner.opens opened
  pub text : List ℕ
  pub stage : Stage
  pub obeyed : ObeyAll manner (new_stage scenario.nodes) scenario.commands text stage
  pub appended : Appends writer_old.contents writer_new.contents (opened ++ text)

-- they were obeyed up to a settling that passes its limit, and nothing of it was written
pub record PlaysToLimit (manner : Manner) (scenario : Scenario)
    (writer_old writer_new : SinkAt) : Type 0 where
  pub done : List Command
  pub last : Command
  pub left : List Command
  pub commands_are : scenario.commands ≡ done ++ last ∷ left
  pub opened : List ℕ
  pub opens : manner.opens opened
  pub text : List ℕ
  pub stage : Stage
  pub obeyed : ObeyAll manner (new_stage scenario.nodes) done text stage
  pub limit : PassesLimit stage last
  pub appended : Appends writer_old.contents writer_new.contents (opened ++ text)

-- a front of what they print was written
pub record StopsPlaying (manner : Manner) (scenario : Scenario)
    (writer_old writer_new : SinkAt) (fault : StreamFault) : Type 0 where
  pub text : List ℕ
  pub front : IsFrontOfPlay manner scenario text
  pub appended : Appends writer_old.contents writer_new.contents text
  pub cause : IsWriteFault writer_old.failed writer_new.failed fault

-- how playing a scenario ends before its last command
abbrev pub EndsPlay : Manner → Scenario → (writer_old writer_new : SinkAt) → ScenarioFault → Type 0
EndsPlay manner scenario writer_old writer_new (BadLine number) = ⊥
EndsPlay manner scenario writer_old writer_new Limit =
    PlaysToLimit manner scenario writer_old writer_new
    × FailsNoMore writer_old.failed writer_new.failed
EndsPlay manner scenario writer_old writer_new (Stream fault) =
    StopsPlaying manner scenario writer_old writer_new fault

-- the output for a text was written
pub record WritesOutput (manner : Manner) (text : List ℕ)
    (writer_old writer_new : SinkAt) : Type 0 where
  pub output : List ℕ
  pub output_is : IsOutput manner text output None
  pub front : IsFrontOfOutput manner text output
  pub appended : Appends writer_old.contents writer_new.contents output

-- the scenario of a text was played up to a settling that passes its limit
pub record StopsAtLimit (manner : Manner) (text : List ℕ)
    (writer_old writer_new : SinkAt) : Type 0 where
  pub scenario : Scenario
  pub none_bad : first_bad manner.resolvers text ≡ None
  pub scenario_is : scenario_of (commands_of manner.resolvers text) ≡ Some scenario
  pub plays : PlaysToLimit manner scenario writer_old writer_new

-- how the run of a text ends before its line of a fault is written
abbrev pub EndsBefore : Manner → List ℕ → (writer_old writer_new : SinkAt) → ScenarioFault → Type 0
EndsBefore manner text writer_old writer_new (BadLine number) =
    (first_bad manner.resolvers text ≡ Some number)
    × Appends writer_old.contents writer_new.contents []
    × FailsNoMore writer_old.failed writer_new.failed
EndsBefore manner text writer_old writer_new Limit =
    StopsAtLimit manner text writer_old writer_new
    × FailsNoMore writer_old.failed writer_new.failed
EndsBefore manner text writer_old writer_new (Stream fault) =
    StopsPrinting manner text writer_old writer_new fault
