-- That each event has an outcome: it is accepted, or there is a cause to refuse it other than want
-- of memory. No event has two of these (`NoEventHasTwoOutcomes` of `node_core`).
use Rattle.std.specs.Prelude.{◌≢◌, ◌⊎◌, List, All}
use Rattle.node_events.specs.declared.event.NodeEvent.{NodeEvent}
use Rattle.node_events.specs.declared.fault.StepFault.{StepFault}
use Rattle.node_events.specs.declared.fault.StepFault.TheVariants.{Memory}
use Rattle.node_core.specs.declared.state.Stepped.{Stepped}
use Rattle.node_core.specs.Node.{NodeParts}
use Rattle.node_core.specs.Run.{IsRun, events_of}
use Rattle.node_core.specs.Step.{CanComeOf, IsNodeStep}
use Rattle.node_outcomes.specs.Lawful.{IsLawfulOpening, IsLawfulEvent, IsLawfulNode}

-- the event is accepted: there is its step
pub record IsAccepted (old : NodeParts) (event : NodeEvent) : Type 0 where
  pub new : NodeParts
  pub stepped : Stepped
  pub step : IsNodeStep old event new stepped

-- there is a cause to refuse the event, other than want of memory
pub record HasOtherCause (old : NodeParts) (event : NodeEvent) : Type 0 where
  pub fault : StepFault
  pub other : fault ≢ Memory
  pub cause : CanComeOf old event fault

abbrev pub HasAnOutcome : NodeParts → NodeEvent → Type 0
HasAnOutcome old event = IsAccepted old event ⊎ HasOtherCause old event

-- each lawful event of a lawful node has an outcome; and so does each lawful event after a run of
-- such events, from the beginning of a life on
pub record EachEventHasAnOutcome : Type 0 where
  pub of_lawful : (old : NodeParts) (event : NodeEvent) → IsLawfulNode old → IsLawfulEvent event
      → HasAnOutcome old event
  pub after_runs : (first : NodeParts) (steps : List (NodeEvent × Stepped)) (old : NodeParts)
      (event : NodeEvent) → IsLawfulOpening first → All IsLawfulEvent (events_of steps)
      → IsRun first steps old → IsLawfulEvent event → HasAnOutcome old event

-- ---- nodes stay lawful

-- a life begins with a lawful node; steps and runs of lawful events leave one
pub record NodesStayLawful : Type 0 where
  pub begins : (s : NodeParts) → IsLawfulOpening s → IsLawfulNode s
  pub steps : (old : NodeParts) (event : NodeEvent) (new : NodeParts) (s : Stepped)
      → IsLawfulNode old → IsLawfulEvent event → IsNodeStep old event new s → IsLawfulNode new
  pub runs : (steps : List (NodeEvent × Stepped)) (old new : NodeParts) → IsLawfulNode old
      → All IsLawfulEvent (events_of steps) → IsRun old steps new → IsLawfulNode new
