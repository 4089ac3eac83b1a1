-- Lawful events have outcomes one after the other: each outcome leaves a world that is whole, so that the next event passes.
use Rattle.std.proofs.Common.{◌≡◌, ◌≢◌, ℕ, ◌<◌, ◌≤◌, List, [], ◌∷◌, ◌++◌, length, All, Option, Some, None, Result, Ok, Err, refl, sym, ap, subst, ◌∙◌, arith}
use Rattle.std.proofs.lemmas.List.{append-nil}
use Rattle.std.proofs.lemmas.List.Elements.{All-cons, All-head, All-nil, All-tail}
use Rattle.node_events.specs.declared.event.NodeEvent.{NodeEvent}
use Rattle.node_events.specs.declared.event.NodeEvent.TheVariants.{Write, Take}
use Rattle.node_core.specs.declared.state.Stepped.{Stepped}
use Rattle.node_core.specs.Node.{NodeParts}
use Rattle.node_core.specs.Rows.{Input, IsInput, Local, Received}
use Rattle.node_core.specs.Step.{IsNodeStep}
use Rattle.node_core.proofs.Leaves.{each_step_leaves}
use Rattle.restart_images.specs.Keeping.{most_incarnation}
use Rattle.restart_images.specs.Node.{ImagedNode}
use Rattle.world_core.specs.declared.answer.Accepted.{Accepted}
use Rattle.world_core.specs.declared.answer.Answer.{Answer}
use Rattle.world_core.specs.declared.event.Event.{Event}
use Rattle.world_core.specs.declared.event.Event.TheVariants as events
use Rattle.world_core.specs.declared.fault.WorldFault.{WorldFault}
use Rattle.world_core.specs.declared.fault.WorldFault.TheVariants.{Memory}
use Rattle.world_core.specs.Events.{Step, node_of_event}
use Rattle.world_core.specs.Invariant.{IsWholeWorld, IsWorld}
use Rattle.world_core.specs.Numbers.{numbered}
use Rattle.world_core.specs.Outcome.{Makes, MakesRestart, MakesStep, Outcome}
use Rattle.world_core.specs.Refusal.{IsFrame, doing_in, node_at}
use Rattle.world_core.specs.World.{World, new_world}
use Rattle.world_core.proofs.Happens.{BringsNothing, IsNamed}
use Rattle.world_core.proofs.Outcomes.{kept, world_is, world_of}
use Rattle.world_core.proofs.Refusing.{AllThere, node_is_there}
use Rattle.world_core.proofs.Running.{passes}
use Rattle.world_core.proofs.Worlds.{world_new, world_restart, world_step}
use Rattle.scenario_outcomes.specs.Lawful.{IsLawfulWorld, IsLawfulWorldEvent}
use Rattle.scenario_outcomes.specs.Outcome.{EachEventOfAWorldHasAnOutcome, HasOutcome, HasOutcomes}
use Rattle.scenario_outcomes.proofs.Doings.{IsLawfulDoing, IsLawfulStep, lawful_doing}
use Rattle.scenario_outcomes.proofs.Nodes.{stepped_at}
use Rattle.scenario_outcomes.proofs.Refusals.{accepted_there}
use Rattle.scenario_outcomes.proofs.Worlds.{event_stays, outcome_of, world_begins}

-- ---- what an accepted event names is there

taken_frame : (bytes : List ℕ) (word : ℕ) (input : Input) → IsInput (Take bytes word) input → IsFrame bytes
taken_frame bytes word (Received frame w) is = record { frame = frame; spelled = is.0 }
taken_frame bytes word (Local own) is = absurd is

brings_nothing : (w : World) (n : ℕ) (step : NodeEvent) (state : NodeParts) (given : Stepped) → AllThere w (events.Step n step)
    → IsNodeStep (node_at w n).state step state given → BringsNothing step
brings_nothing w n (Write key value (Some context)) state given there makes = absurd (there.read tt)
brings_nothing w n (Write key value None) state given there makes = tt
brings_nothing w n (Take bytes word) state given there makes =
    absurd (there.junk (taken_frame bytes word makes.input makes.is_input))
brings_nothing w n step state given there makes = tt

found_there : {A : Type 0} (found : Option A) → (found ≡ None → ⊥) → (x : A) × (found ≡ Some x)
found_there None there = absurd (there refl)
found_there (Some x) there = (x, refl)

-- ---- what an outcome leaves is a whole world

whole_step : (old new : World) (event : Event) (step : NodeEvent) (answer : Answer) → IsWorld old → IsLawfulWorld old
    → AllThere old event → doing_in old event ≡ Step step → IsNamed old.contexts old.frames event → IsLawfulStep step
    → MakesStep old (node_of_event event) step answer new
    → new.accepted ≡ old.accepted ++ (record { event = event; answer = answer }) ∷ [] → IsWorld new
whole_step old new event step answer world is there doing named lawful makes accepted =
    let n : ℕ = node_of_event event in
    let node : ImagedNode = node_at old n in
    let a : Accepted = record { event = event; answer = answer } in
    let low : n < length old.nodes = node_is_there old event there.node in
    subst IsWorld (world_is new (sym makes.nodes) (sym accepted) (sym makes.frames) (sym makes.contexts))
    (world_step old world a step makes.state makes.given
    (record {
      low = low;
      named = named;
      doing = doing;
      restorable = (is.nodes n low).images;
      is_table = (stepped_at n node step makes.state makes.given (is.nodes n low) lawful makes.makes).state.table;
      makes = makes.makes;
      leaves = each_step_leaves node.state step makes.state makes.given makes.makes;
      reply = ap (λ (answer : Answer). answer.reply) makes.answers;
      read = ap (λ (answer : Answer). answer.read) makes.answers;
      sent = ap (λ (answer : Answer). answer.sent) makes.answers;
    }))

whole_restart : (old new : World) (n image : ℕ) (answer : Answer) → IsWorld old → n < length old.nodes
    → (node_at old n).state.incarnation < most_incarnation → MakesRestart old n image answer new
    → new.accepted ≡ old.accepted ++ (record { event = events.Restart n image; answer = answer }) ∷ [] → IsWorld new
whole_restart old new n image answer world low left makes accepted =
    subst IsWorld
    (world_is new (sym makes.nodes) (sym accepted) (append-nil old.frames ∙ sym makes.frames) (append-nil old.contexts ∙ sym makes.contexts))
    (world_restart old world n image answer makes.node
    (record {
      low = low;
      left = left;
      restarts = makes.restarts;
      reply = ap (λ (answer : Answer). answer.reply) makes.answers;
      read = ap (λ (answer : Answer). answer.read) makes.answers;
      sent = ap (λ (answer : Answer). answer.sent) makes.answers;
    }))

life_left : (life : ℕ) → life ≤ most_incarnation → life ≢ most_incarnation → life < most_incarnation
life_left life within left =
    let few : life ≤ 4294967295 = within in
    let apart : life ≢ 4294967295 = left in
    omega (arith, few, apart)

whole_by : (old new : World) (event : Event) (answer : Answer) → IsWorld old → IsLawfulWorld old → AllThere old event
    → IsLawfulDoing (node_at old (node_of_event event)) (doing_in old event)
    → Makes old (node_of_event event) (doing_in old event) answer new
    → new.accepted ≡ old.accepted ++ (record { event = event; answer = answer }) ∷ [] → IsWorld new
whole_by old new (events.Step n step) answer world is there lawful makes accepted =
    whole_step old new (events.Step n step) step answer world is there refl
    (brings_nothing old n step makes.state makes.given there makes.makes) lawful makes accepted
whole_by old new (events.Put n key value read) answer world is there lawful makes accepted =
    whole_step old new (events.Put n key value read) _ answer world is there refl
    (found_there (numbered old.contexts read) there.read) lawful makes accepted
whole_by old new (events.Deliver frame n word) answer world is there lawful makes accepted =
    whole_step old new (events.Deliver frame n word) _ answer world is there refl
    (found_there (numbered old.frames frame) there.frame) lawful makes accepted
whole_by old new (events.Restart n image) answer world is there lawful makes accepted =
    let low : n < length old.nodes = node_is_there old (events.Restart n image) there.node in
    whole_restart old new n image answer world low
    (life_left (node_at old n).state.incarnation (is.nodes n low).images.lives lawful.1) makes accepted

leaves_whole : (old new : World) (event : Event) (outcome : Result Answer WorldFault) → IsWholeWorld old → IsLawfulWorld old
    → IsLawfulWorldEvent event → Outcome old event outcome new → IsWholeWorld new
unfolding Outcome
leaves_whole old new event (Ok answer) whole is lawful accepts =
    let there : AllThere old event = accepted_there old event accepts.no_refusal in
    kept new
    (whole_by old new event answer (world_of old whole) is there (lawful_doing old event is lawful there) accepts.makes accepts.accepted)
leaves_whole old new event (Err fault) whole is lawful declines = subst IsWholeWorld (sym declines.same) whole

-- ---- one event after the other

abbrev HadMemory : Result Answer WorldFault → Type 0
HadMemory outcome = outcome ≢ Err Memory

outcomes_of : (old : World) (passed : List Event) → IsWholeWorld old → IsLawfulWorld old → All IsLawfulWorldEvent passed
    → HasOutcomes old passed
outcomes_of old [] whole is all = record { outcomes = []; new = old; ran = refl; had_memory = All-nil HadMemory }
outcomes_of old (e ∷ es) whole is all =
    let lawful : IsLawfulWorldEvent e = All-head IsLawfulWorldEvent e es all in
    let first : HasOutcome old e = outcome_of old e is lawful in
    let left : IsWholeWorld first.new = leaves_whole old first.new e first.outcome whole is lawful first.comes in
    let rest : HasOutcomes first.new es =
    outcomes_of first.new es left (event_stays old first.new e first.outcome is lawful first.comes) (All-tail IsLawfulWorldEvent e es all) in
    record {
      outcomes = first.outcome ∷ rest.outcomes;
      new = rest.new;
      ran = (first.new, (passes old e first.outcome first.new whole first.comes left, rest.ran));
      had_memory = All-cons HadMemory first.outcome rest.outcomes first.had_memory rest.had_memory;
    }

pub each_event_of_a_world_has_an_outcome : EachEventOfAWorldHasAnOutcome
each_event_of_a_world_has_an_outcome = record {
  of_lawful = outcome_of;
  of_runs = λ count passed some few all.
      outcomes_of (new_world count) passed (kept (new_world count) (world_new count some few)) (world_begins count few) all;
}
