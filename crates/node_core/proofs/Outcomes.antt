-- What comes of an event: no event has two outcomes, and a run goes on.
use Rattle.std.proofs.Common.{◌≡◌, ◌⊎◌, inl, inr, List, [], ◌∷◌, ◌++◌, Result, Ok, Err, IfErr, None, Some, refl, sym, ap, subst, ◌∙◌}
use Rattle.meta_frame.proofs.Frames.{one_frame, one_refusal, never_both}
use Rattle.node_events.specs.declared.event.NodeEvent.{NodeEvent}
use Rattle.node_events.specs.declared.event.NodeEvent.TheVariants.{Take}
use Rattle.node_events.specs.declared.fault.StepFault.{StepFault}
use Rattle.node_events.specs.declared.fault.StepFault.TheVariants.{Frame as OfFrame, Memory}
use Rattle.node_core.specs.declared.state.Stepped.{Stepped}
use Rattle.node_core.specs.Node.{NodeParts}
use Rattle.node_core.specs.Rows.{Input, IsInput, Local, Received}
use Rattle.node_core.specs.Step.{CanComeOf, IsNoFrame, IsNodeStep, IsRefused, IsStepOf, Rejects, refusal_of}
use Rattle.node_core.specs.declared.attempt.Attempt.{Attempt}
use Rattle.node_core.specs.Handling.{Attempts}
use Rattle.node_core.specs.Run.{NoEventHasTwoOutcomes, IsOneCause, IsRun, RunsGoOn}

-- ---- an event of the node itself

pub cause_of : (old : NodeParts) (fault : StepFault) (own : NodeEvent) → IsInput own (Local own)
    → (fault ≡ Memory) ⊎ (refusal_of (Local own) old ≡ Some fault) → CanComeOf old own fault
cause_of old fault own is (inl memory) = inl memory
cause_of old fault own is (inr first) =
    inr (inr (record { input = Local own; is_input = is; first = first }))

pub refused : (old new : NodeParts) (r : Result Attempt StepFault) (own : NodeEvent)
    → IsInput own (Local own) → Attempts old (Local own) r new → IfErr r (CanComeOf old own)
refused old new (Ok a) own is step = tt
refused old new (Err fault) own is fails = cause_of old fault own is fails.0

pub rejected : (old new : NodeParts) (r : Result Attempt StepFault) (event own : NodeEvent)
    → event ≡ own → IsInput own (Local own) → Attempts old (Local own) r new
    → IfErr r (λ fault. Rejects old event fault new)
rejected old new (Ok a) event own same is step = tt
rejected old new (Err fault) event own same is fails =
    subst (λ e. Rejects old e fault new) (sym same)
    (record { cause = cause_of old fault own is fails.0; same = fails.1 })

-- ---- one outcome

pub one_input : (event : NodeEvent) (i j : Input) → IsInput event i → IsInput event j → i ≡ j
one_input (Take bytes word) (Received f w) (Received g v) is other =
    λ i. Received (one_frame f g bytes is.0 other.0 i) ((is.1 ∙ sym other.1) i)
one_input (Take bytes word) (Local e) j is other = absurd is
one_input (Take bytes word) (Received f w) (Local e) is other = absurd other
one_input _ (Local e) (Local d) is other = ap Local (is ∙ sym other)
one_input _ (Local e) (Received f w) is other = absurd other
one_input _ (Received f w) j is other = absurd is

no_frame_beside_a_step : (event : NodeEvent) (i : Input) (fault : StepFault) → IsInput event i
    → IsNoFrame event fault → ⊥
no_frame_beside_a_step (Take bytes word) (Received f w) (OfFrame fault) is none =
    never_both f bytes fault is.0 none
no_frame_beside_a_step (Take bytes word) (Local e) fault is none = absurd is
no_frame_beside_a_step _ i fault is none = absurd none

one_no_frame : (event : NodeEvent) (fault other : StepFault) → IsNoFrame event fault
    → IsNoFrame event other → fault ≡ other
one_no_frame (Take bytes word) (OfFrame fault) (OfFrame other) is also =
    ap OfFrame (one_refusal bytes fault other is also)
one_no_frame (Take bytes word) (OfFrame fault) _ is also = absurd also
one_no_frame _ fault other is also = absurd is

no_refusal_beside_a_step : {old new : NodeParts} {event : NodeEvent} {s : Stepped}
    (fault : StepFault) → IsNodeStep old event new s → CanComeOf old event fault → fault ≡ Memory
no_refusal_beside_a_step fault is (inl memory) = memory
no_refusal_beside_a_step {event = event} fault is (inr (inl none)) =
    absurd (no_frame_beside_a_step event is.input fault is.is_input none)
no_refusal_beside_a_step {old = old} {event = event} fault is (inr (inr also)) =
    let same = one_input event is.input also.input is.is_input also.is_input in
    let both : None ≡ Some fault = sym is.step.accepted ∙ ap (λ i. refusal_of i old) same ∙ also.first in
    absurd (cc)

-- what is accepted has no cause
pub no_cause : {old new : NodeParts} {event : NodeEvent} {s : Stepped} (fault : StepFault)
    → IsNodeStep old event new s → IsNoFrame event fault ⊎ IsRefused old event fault → ⊥
no_cause {event = event} fault is (inl none) =
    no_frame_beside_a_step event is.input fault is.is_input none
no_cause {old = old} {event = event} fault is (inr also) =
    let same = one_input event is.input also.input is.is_input also.is_input in
    let both : None ≡ Some fault = sym is.step.accepted ∙ ap (λ i. refusal_of i old) same ∙ also.first in
    cc

one_step : {old new other : NodeParts} {event : NodeEvent} {s t : Stepped}
    → IsNodeStep old event new s → IsNodeStep old event other t → (new ≡ other) × (s ≡ t)
one_step {old = old} {new = new} {event = event} {s = s} is also =
    let same = one_input event is.input also.input is.is_input also.is_input in
    let step = subst (λ i. IsStepOf old i new s) same is.step in (
      step.node ∙ sym also.step.node,
      λ i. record {
        reply = (step.replies ∙ sym also.step.replies) i;
        outbox = (step.sends ∙ sym also.step.sends) i;
      },
    )

one_cause : {old : NodeParts} {event : NodeEvent} (fault other : StepFault)
    → CanComeOf old event fault → CanComeOf old event other → IsOneCause fault other
one_cause fault other (inl memory) also = inl memory
one_cause fault other is (inl memory) = inr (inl memory)
one_cause {event = event} fault other (inr (inl is)) (inr (inl also)) =
    inr (inr (one_no_frame event fault other is also))
one_cause {event = event} fault other (inr (inl is)) (inr (inr also)) =
    absurd (no_frame_beside_a_step event also.input fault also.is_input is)
one_cause {event = event} fault other (inr (inr is)) (inr (inl also)) =
    absurd (no_frame_beside_a_step event is.input other is.is_input also)
one_cause {old = old} {event = event} fault other (inr (inr is)) (inr (inr also)) =
    let same = one_input event is.input also.input is.is_input also.is_input in
    let both : Some fault ≡ Some other = sym is.first ∙ ap (λ i. refusal_of i old) same ∙ also.first in
    inr (inr (cc))

pub one_outcome : NoEventHasTwoOutcomes
one_outcome = record {
  steps = λ old event new other s t is also. one_step is also;
  causes = λ old event fault other is also. one_cause fault other is also;
  never_both = λ old event new s fault is can. no_refusal_beside_a_step fault is can;
}

-- ---- a run

go_on : (steps : List (NodeEvent × Stepped)) (old mid new : NodeParts) (event : NodeEvent) (s : Stepped)
    → IsRun old steps mid → IsNodeStep mid event new s → IsRun old (steps ++ (event, s) ∷ []) new
go_on [] old mid new event s run step =
    (new, (subst (λ from. IsNodeStep from event new s) run step, refl))
go_on (e ∷ es) old mid new event s run step =
    (run.0, (run.1.0, go_on es run.0 mid new event s run.1.1 step))

one_run : (steps : List (NodeEvent × Stepped)) (old new other : NodeParts) → IsRun old steps new
    → IsRun old steps other → new ≡ other
one_run [] old new other run also = run ∙ sym also
one_run (e ∷ es) old new other run also =
    one_run es run.0 new other run.1.1
    (subst (λ from. IsRun from es other) (sym (one_step run.1.0 also.1.0).0) also.1.1)

pub each_run_goes_on : RunsGoOn
each_run_goes_on = record {
  begins = λ s. refl;
  goes_on = λ steps old mid new event s run step. go_on steps old mid new event s run step;
  one_end = λ steps old new other run also. one_run steps old new other run also;
}
