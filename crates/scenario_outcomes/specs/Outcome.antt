-- That each event of a world has an outcome, and each text an output. Neither has two of them
-- (`OneOutcomeForEachEvent` of `world_core`, `scenario::laws::one_output_for_a_text`).
use Rattle.std.specs.Prelude.{◌≢◌, ℕ, ◌≤◌, List, All, Option, Result, Err}
use Rattle.meta_types.specs.Node.{most_nodes}
use Rattle.scenario.specs.declared.fault.ScenarioFault.{ScenarioFault}
use Rattle.scenario.specs.Output.{IsOutput, Manner, plain}
use Rattle.scenario_commands.specs.Obeying.{Choices}
use Rattle.scenario_outcomes.specs.Lawful.{IsLawfulWorldEvent, IsLawfulWorld}
use Rattle.world_core.specs.declared.answer.Answer.{Answer}
use Rattle.world_core.specs.declared.event.Event.{Event}
use Rattle.world_core.specs.declared.fault.WorldFault.{WorldFault}
use Rattle.world_core.specs.declared.fault.WorldFault.TheVariants.{Memory}
use Rattle.world_core.specs.Outcome.{Outcome, Outcomes}
use Rattle.world_core.specs.World.{World, new_world}

-- ---- of an event

-- the event is accepted or refused, and not for want of memory
pub record HasOutcome (old : World) (event : Event) : Type 0 where
  pub outcome : Result Answer WorldFault
  pub new : World
  pub comes : Outcome old event outcome new
  pub had_memory : outcome ≢ Err Memory

-- the events have outcomes one after the other, none of which is want of memory
pub record HasOutcomes (old : World) (events : List Event) : Type 0 where
  pub outcomes : List (Result Answer WorldFault)
  pub new : World
  pub ran : Outcomes old events outcomes new
  pub had_memory : All (λ outcome. outcome ≢ Err Memory) outcomes

-- each lawful event of a lawful world has an outcome; and any such events have outcomes one after
-- the other, from a new world on
pub record EachEventOfAWorldHasAnOutcome : Type 0 where
  pub of_lawful : (w : World) (event : Event) → IsLawfulWorld w → IsLawfulWorldEvent event
      → HasOutcome w event
  pub of_runs : (count : ℕ) (events : List Event) → 1 ≤ count → count ≤ most_nodes
      → All IsLawfulWorldEvent events → HasOutcomes (new_world count) events

-- a new world is lawful; lawful events leave one, whatever their outcomes are
pub record WorldsStayLawful : Type 0 where
  pub begins : (count : ℕ) → count ≤ most_nodes → IsLawfulWorld (new_world count)
  pub events : (old new : World) (event : Event) (outcome : Result Answer WorldFault)
      → IsLawfulWorld old → IsLawfulWorldEvent event → Outcome old event outcome new
      → IsLawfulWorld new
  pub runs : (old new : World) (events : List Event) (outcomes : List (Result Answer WorldFault))
      → IsLawfulWorld old → All IsLawfulWorldEvent events → Outcomes old events outcomes new
      → IsLawfulWorld new

-- ---- of a text

-- the text has an output, and its run a way to end
pub record HasOutput (manner : Manner) (text : List ℕ) : Type 0 where
  pub output : List ℕ
  pub ended : Option ScenarioFault
  pub is : IsOutput manner text output ended

-- with the results alone, each text has an output, whatever the resolvers choose
abbrev pub EachTextHasAnOutput : Type 0
EachTextHasAnOutput = (choices : Choices) (text : List ℕ) → HasOutput (plain choices) text
