-- What a text prints, and how its run ends, in the manner in which it is run: with the results
-- alone, or explained. Of results alone there is at most one output, by what the resolvers choose
-- (`laws::one_output_for_a_text`).
use Rattle.std.specs.Prelude.{◌≡◌, ℕ, ◌⊎◌, List, [], ◌∷◌, ◌++◌, length, Option, Some, None, codes}
use Rattle.scenario.specs.declared.fault.ScenarioFault.{ScenarioFault}
use Rattle.scenario.specs.declared.fault.ScenarioFault.TheVariants.{BadLine, Limit}
use Rattle.scenario_text.specs.Commands.{Command}
use Rattle.scenario_commands.specs.Obeying.{Choices, Obeys, PassesLimit, Stage, new_stage}
use Rattle.scenario_commands.specs.Printed.{line}
use Rattle.scenario.specs.Ending.{bad_line, limit_line}
use Rattle.scenario_text.specs.Script.{Scenario, commands_of, first_bad, scenario_of}

-- ---- in what manner a scenario is run

-- what is printed of a command that leads from one stage to the next
abbrev pub PlaysCommand : Type 1
PlaysCommand = Stage → Command → List ℕ → Stage → Type 0

-- how many resolvers are at hand, what is printed of `nodes`, and of each command after it
pub record Manner : Type 1 where
  pub resolvers : ℕ
  pub opens : List ℕ → Type 0
  pub does : PlaysCommand

abbrev pub manner_of : (List ℕ → Type 0) → (Choices → PlaysCommand) → Choices → Manner
manner_of opens does choices = record {
  resolvers = length choices;
  opens = opens;
  does = does choices;
}

-- `nodes` prints that it is done
abbrev pub opens_plainly : List ℕ → Type 0
opens_plainly text = text ≡ line (codes "ok")

-- the results alone
abbrev pub plain : Choices → Manner
plain choices = manner_of opens_plainly Obeys choices

-- ---- a run to its end

-- commands are obeyed in their order, up to this stage, and print this text
abbrev pub ObeyAll : Manner → Stage → List Command → List ℕ → Stage → Type 0
ObeyAll manner old [] text new = (text ≡ []) × (new ≡ old)
ObeyAll manner old (command ∷ commands) text new =
    (first : List ℕ) × (rest : List ℕ) × (between : Stage)
    × manner.does old command first between
    × ObeyAll manner between commands rest new × (text ≡ first ++ rest)

-- commands are run in their order, what they print, and why the run ended early, if it did: each is
-- obeyed, until one passes the limit of a settling, which ends the run
abbrev pub Runs : Manner → Stage → List Command → List ℕ → Option ScenarioFault → Type 0
Runs manner old [] text ended = (text ≡ []) × (ended ≡ None)
Runs manner old (command ∷ commands) text ended =
    (PassesLimit old command × (text ≡ limit_line) × (ended ≡ Some Limit))
    ⊎ ((first : List ℕ) × (rest : List ℕ) × (between : Stage)
    × manner.does old command first between × Runs manner between commands rest ended
    × (text ≡ first ++ rest))

-- first what is printed of `nodes`
pub record Plays (manner : Manner) (scenario : Scenario) (output : List ℕ)
    (ended : Option ScenarioFault) : Type 0 where
  pub opened : List ℕ
  pub opens : manner.opens opened
  pub rest : List ℕ
  pub runs : Runs manner (new_stage scenario.nodes) scenario.commands rest ended
  pub output_is : output ≡ opened ++ rest

-- a text without a command prints nothing
abbrev pub PlaysOrNothing : Manner → Option Scenario → List ℕ → Option ScenarioFault → Type 0
PlaysOrNothing manner None output ended = (output ≡ []) × (ended ≡ None)
PlaysOrNothing manner (Some scenario) output ended = Plays manner scenario output ended

-- only the line about the first bad line is printed, or the scenario is played
abbrev pub PlaysUnless : Option ℕ → Manner → List ℕ → List ℕ → Option ScenarioFault → Type 0
PlaysUnless (Some number) manner text output ended =
    (output ≡ bad_line number) × (ended ≡ Some (BadLine number))
PlaysUnless None manner text output ended =
    PlaysOrNothing manner (scenario_of (commands_of manner.resolvers text)) output ended

-- the output for a text, and why it ended early, if it did
abbrev pub IsOutput : Manner → List ℕ → List ℕ → Option ScenarioFault → Type 0
IsOutput manner text output ended =
    PlaysUnless (first_bad manner.resolvers text) manner text output ended

-- ---- a run that ends at a fault of writing, or when memory runs out

-- a front of what the next command prints, or of the line of the limit that it passes; or nothing
abbrev pub BeginsNext : Manner → Stage → List Command → List ℕ → Type 0
BeginsNext manner stage [] begun = begun ≡ []
BeginsNext manner stage (next ∷ later) begun = (begun ≡ [])
    ⊎ ((text : List ℕ) × (more : List ℕ) × (new : Stage)
    × manner.does stage next text new × (text ≡ begun ++ more))
    ⊎ ((more : List ℕ) × PassesLimit stage next × (limit_line ≡ begun ++ more))

-- what was printed: all that the first commands print, and a front of what the next one prints
pub record RunsFront (manner : Manner) (old : Stage) (commands : List Command) (text : List ℕ)
    : Type 0 where
  pub done : List Command
  pub left : List Command
  pub commands_are : commands ≡ done ++ left
  pub printed : List ℕ
  pub stage : Stage
  pub obeyed : ObeyAll manner old done printed stage
  pub begun : List ℕ
  pub begins : BeginsNext manner stage left begun
  pub text_is : text ≡ printed ++ begun

-- what was printed of a scenario: nothing, a front of what `nodes` prints, or that and the front of
-- a run
abbrev pub IsFrontOfPlay : Manner → Scenario → List ℕ → Type 0
IsFrontOfPlay manner scenario front = (front ≡ [])
    ⊎ ((opened : List ℕ) × (more : List ℕ) × manner.opens opened × (opened ≡ front ++ more))
    ⊎ ((opened : List ℕ) × (rest : List ℕ) × manner.opens opened
    × RunsFront manner (new_stage scenario.nodes) scenario.commands rest
    × (front ≡ opened ++ rest))

-- what was printed of a text: a front of the line of its first bad line, or of its scenario; or
-- nothing. With results alone the output begins with it
-- (`laws::the_output_begins_with_its_front`).
abbrev pub IsFrontOfOutput : Manner → List ℕ → List ℕ → Type 0
IsFrontOfOutput manner text front = (front ≡ [])
    ⊎ ((number : ℕ) × (more : List ℕ)
    × (first_bad manner.resolvers text ≡ Some number) × (bad_line number ≡ front ++ more))
    ⊎ ((scenario : Scenario) × (first_bad manner.resolvers text ≡ None)
    × (scenario_of (commands_of manner.resolvers text) ≡ Some scenario)
    × IsFrontOfPlay manner scenario front)
