-- How a run of a scenario ends for who started the program. The output has the number of a bad
-- line, and that a settling passes its limit; standard error has other faults, and for a bad line
-- what it is and what it wants.
use Rattle.std.specs.Prelude.{◌≡◌, ◌⊎◌, ℕ, Bool, true, false, List, [], ◌∷◌, length, slice_get, Some, None}
use Rattle.std.specs.Io.KnownBytes.{Keeps}
use Rattle.streams.specs.Moment.{SinkAt, SourceAt}
use Rattle.streams.specs.declared.fault.StreamFault.{StreamFault}
use Rattle.meta_types.specs.Value.{ValueParts}
use Rattle.resolvers.specs.Greatest.{by_body, by_stamp, first_greatest}
use Rattle.scenario_text.specs.Word.{Word}
use Rattle.scenario_text.specs.Commands.{resolver}
use Rattle.scenario_commands.specs.Obeying.{Choices}
use Rattle.scenario.specs.Output.{Manner, plain}
use Rattle.scenario.specs.Run.{EndsText, Prints, ReadsAll, ReadsPart}
use Rattle.scenario.specs.declared.fault.ScenarioFault.{ScenarioFault}
use Rattle.scenario.specs.declared.fault.ScenarioFault.TheVariants.{BadLine, Limit, Stream}
use Rattle.scenario_explain.specs.Told.{explained}
use Rattle.scenario_text.specs.Hint.{IsTold}
use Rattle.plumctl_core.specs.Opening.{TellsText}
use Rattle.plumctl_core.specs.Status.{TellsFault, status_of_fault}

-- what is chosen by the words that a command may name, `lww` and `largest`: the last write by its
-- stamp, and the largest body
abbrev pub named_choices : Choices
named_choices = first_greatest by_stamp ∷ first_greatest by_body ∷ []

-- the word names this choice: it stands at the number that the language gives to the word
abbrev pub NamesChoice : Word → (List ValueParts → ℕ) → Type 0
NamesChoice word choice = (place : ℕ)
    × (resolver (length named_choices) (word ∷ []) ≡ Some (place, []))
    × (slice_get named_choices place ≡ Some choice)

-- explained, or with the results alone
abbrev pub manner_by : (explain : Bool) → Choices → Manner
manner_by true choices = explained choices
manner_by false choices = plain choices

abbrev pub status_of_scenario : ScenarioFault → ℕ
status_of_scenario (BadLine line) = 1
status_of_scenario Limit = 1
status_of_scenario (Stream fault) = status_of_fault fault

-- what the line of this number is and wants was printed, as far as standard error takes it; or
-- memory ran out for that
abbrev pub TellsBadLine : (errors_old errors_new : SinkAt) → List ℕ → ℕ → Type 0
TellsBadLine errors_old errors_new text number =
    Keeps errors_old.contents errors_new.contents
    ⊎ ((told : List ℕ) × IsTold text number told × TellsText errors_old errors_new told)

-- what is printed at standard error for a fault of the run of this text
abbrev pub TellsScenario : (errors_old errors_new : SinkAt) → List ℕ → ScenarioFault → Type 0
TellsScenario errors_old errors_new text (BadLine line) =
    TellsBadLine errors_old errors_new text line
TellsScenario errors_old errors_new text Limit = Keeps errors_old.contents errors_new.contents
TellsScenario errors_old errors_new text (Stream fault) = TellsFault errors_old errors_new fault

-- a text was run to its end, and nothing was printed at standard error
pub record FinishesText (manner : Manner) (text : List ℕ)
    (writer_old writer_new errors_old errors_new : SinkAt) (status : ℕ) : Type 0 where
  pub status_is : status ≡ 0
  pub kept : Keeps errors_old.contents errors_new.contents
  pub prints : Prints manner text writer_old writer_new None

-- or it ended early by a fault, which was reported at standard error
pub record StopsText (manner : Manner) (text : List ℕ)
    (writer_old writer_new errors_old errors_new : SinkAt) (status : ℕ) : Type 0 where
  pub fault : ScenarioFault
  pub status_is : status ≡ status_of_scenario fault
  pub told : TellsScenario errors_old errors_new text fault
  pub ends : EndsText manner text writer_old writer_new fault

-- how the run of a text ends
abbrev pub EndsAndTells : Manner → List ℕ
    → (writer_old writer_new errors_old errors_new : SinkAt) → (status : ℕ) → Type 0
EndsAndTells manner text writer_old writer_new errors_old errors_new status =
    FinishesText manner text writer_old writer_new errors_old errors_new status
    ⊎ StopsText manner text writer_old writer_new errors_old errors_new status

-- the whole input was read, and its run ended so
pub record EndsInput (manner : Manner) (reader_old reader_new : SourceAt)
    (writer_old writer_new errors_old errors_new : SinkAt) (status : ℕ) : Type 0 where
  pub text : List ℕ
  pub reads : ReadsAll reader_old reader_new text
  pub ends : EndsAndTells manner text writer_old writer_new errors_old errors_new status

-- or the reading was stopped, which was reported, and nothing was written
pub record StopsInput (reader_old reader_new : SourceAt)
    (writer_old writer_new errors_old errors_new : SinkAt) (status : ℕ) : Type 0 where
  pub fault : StreamFault
  pub status_is : status ≡ status_of_fault fault
  pub told : TellsFault errors_old errors_new fault
  pub stops : ReadsPart reader_old reader_new fault
  pub kept : Keeps writer_old.contents writer_new.contents

-- how a run of a scenario ends, in this manner
abbrev pub EndsScenario : Manner → (reader_old reader_new : SourceAt)
    → (writer_old writer_new errors_old errors_new : SinkAt) → (status : ℕ) → Type 0
EndsScenario manner reader_old reader_new writer_old writer_new errors_old errors_new status =
    EndsInput manner reader_old reader_new writer_old writer_new errors_old errors_new status
    ⊎ StopsInput reader_old reader_new writer_old writer_new errors_old errors_new status
