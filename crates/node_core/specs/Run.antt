-- Many steps, one after the other, and that no event has two outcomes.
use Rattle.std.specs.Prelude.{ℕ, ◌+◌, ◌≡◌, ◌<◌, ◌^◌, ◌⊎◌, List, [], ◌∷◌, ◌++◌, length, map}
use Rattle.node_events.specs.declared.event.NodeEvent.{NodeEvent}
use Rattle.node_events.specs.declared.fault.StepFault.{StepFault}
use Rattle.node_events.specs.declared.fault.StepFault.TheVariants.{Memory}
use Rattle.node_core.specs.declared.state.Stepped.{Stepped}
use Rattle.node_overlay.specs.Outbox.{count_on}
use Rattle.node_core.specs.Node.{NodeParts}
use Rattle.node_core.specs.Step.{CanComeOf, IsNodeStep}

-- the two are the same cause, unless memory ran out in one of them
abbrev pub IsOneCause : StepFault → StepFault → Type 0
IsOneCause fault other = (fault ≡ Memory) ⊎ ((other ≡ Memory) ⊎ (fault ≡ other))

-- what a node was and the event determine the outcome: what the node is then and what the step
-- gives, or the cause of the refusal; and what can be accepted is refused only when memory runs out
pub record NoEventHasTwoOutcomes : Type 0 where
  pub steps : (old : NodeParts) (event : NodeEvent) (new other : NodeParts) (s t : Stepped)
      → IsNodeStep old event new s → IsNodeStep old event other t → (new ≡ other) × (s ≡ t)
  pub causes : (old : NodeParts) (event : NodeEvent) (fault other : StepFault)
      → CanComeOf old event fault → CanComeOf old event other → IsOneCause fault other
  pub never_both : (old : NodeParts) (event : NodeEvent) (new : NodeParts) (s : Stepped)
      (fault : StepFault) → IsNodeStep old event new s → CanComeOf old event fault
      → fault ≡ Memory

-- a run: accepted events, one after the other, each with what it gave
abbrev pub IsRun : NodeParts → List (NodeEvent × Stepped) → NodeParts → Type 0
IsRun old [] new = new ≡ old
IsRun old (e ∷ es) new =
    (between : NodeParts) × (IsNodeStep old e.0 between e.1 × IsRun between es new)

-- an empty list of steps is a run; a run goes on by a step; and it has one end
pub record RunsGoOn : Type 0 where
  pub begins : (s : NodeParts) → IsRun s [] s
  pub goes_on : (steps : List (NodeEvent × Stepped)) (old mid new : NodeParts) (event : NodeEvent)
      (s : Stepped) → IsRun old steps mid → IsNodeStep mid event new s
      → IsRun old (steps ++ (event, s) ∷ []) new
  pub one_end : (steps : List (NodeEvent × Stepped)) (old new other : NodeParts)
      → IsRun old steps new → IsRun old steps other → new ≡ other

-- the events that a run was made of, and how many frames it sent
abbrev pub events_of : List (NodeEvent × Stepped) → List NodeEvent
events_of steps = map (λ e. e.0) steps

abbrev pub frames_sent : List (NodeEvent × Stepped) → ℕ
frames_sent [] = 0
frames_sent (e ∷ es) = length e.1.outbox + frames_sent es

-- what a node was and the events determine what the events give, and what the node is in the end
abbrev pub EventsDetermineARun : Type 0
EventsDetermineARun = (steps others : List (NodeEvent × Stepped)) (old new other : NodeParts)
    → IsRun old steps new → IsRun old others other → events_of steps ≡ events_of others
    → (steps ≡ others) × (new ≡ other)

-- two runs, one from where the other ended, are one run; and each run is two, at any place
pub record RunsJoinAndSplit : Type 0 where
  pub joins : (first later : List (NodeEvent × Stepped)) (old mid new : NodeParts)
      → IsRun old first mid → IsRun mid later new → IsRun old (first ++ later) new
  pub splits : (first later : List (NodeEvent × Stepped)) (old new : NodeParts)
      → IsRun old (first ++ later) new
      → (mid : NodeParts) × (IsRun old first mid × IsRun mid later new)

-- the same node in the same life, which has counted `made` more steps and `sent` more frames
pub record CountsOn (made sent : ℕ) (old new : NodeParts) : Type 0 where
  pub node : new.node ≡ old.node
  pub life : new.incarnation ≡ old.incarnation
  pub steps : new.steps ≡ count_on old.steps made
  pub frames : new.frames ≡ count_on old.frames sent

-- a step counts itself and its frames, and so does each step of a run
pub record EachStepCounts : Type 0 where
  pub step : (old : NodeParts) (event : NodeEvent) (new : NodeParts) (s : Stepped)
      → IsNodeStep old event new s → CountsOn 1 (length s.outbox) old new
  pub run : (steps : List (NodeEvent × Stepped)) (old new : NodeParts)
      → old.steps < 2 ^ 64 → old.frames < 2 ^ 64 → IsRun old steps new
      → CountsOn (length steps) (frames_sent steps) old new
