-- A step and a restart that are accepted: the world after it, and its outcome.
use Rattle.std.proofs.Common.{◌≡◌, ℕ, ◌<◌, ◌≤◌, [], ◌∷◌, ◌++◌, length, None, refl, sym, ap, subst, ◌∙◌}
use Rattle.std.specs.Prelude.{get_or, slice_set}
use Rattle.std.proofs.lemmas.List.{append-nil}
use Rattle.meta_store.specs.Table.{IsTable}
use Rattle.node_events.specs.declared.event.NodeEvent.{NodeEvent}
use Rattle.node_events.specs.declared.fault.StepFault.{StepFault}
use Rattle.node_events.specs.declared.reply.Reply.TheVariants.{Done}
use Rattle.node_core.specs.Step.{CanComeOf}
use Rattle.node_core.proofs.Leaves.{each_step_leaves}
use Rattle.restart_images.specs.declared.node.ImagedStep.{ImagedStep}
use Rattle.restart_images.specs.Keeping.{IsRestorable, most_incarnation}
use Rattle.restart_images.specs.Node.{ImagedNode, IsImagedStep, IsRestarted, keeping, stepped_of}
use Rattle.world_core.specs.declared.answer.Accepted.{Accepted}
use Rattle.world_core.specs.declared.answer.Answer.{Answer}
use Rattle.world_core.specs.declared.event.Event.{Event}
use Rattle.world_core.specs.declared.event.Event.TheVariants.{Restart}
use Rattle.world_core.specs.Events.{Step, node_of_event}
use Rattle.world_core.specs.Outcome.{Accepts, Makes, MakesStep, list_of, next_frames, read_after}
use Rattle.world_core.specs.Refusal.{doing_in, node_at}
use Rattle.world_core.specs.Fault.{of_step}
use Rattle.world_core.specs.Steps.{HasNamed, IsOfStep, MayRefuse}
use Rattle.world_core.specs.World.{World}
use Rattle.world_core.specs.Invariant.{IsWorld}
use Rattle.world_core.proofs.Outcomes.{same_node}
use Rattle.world_core.proofs.Refusing.{all_there, named_of, restart_accepted, step_accepted, step_refused}
use Rattle.world_core.proofs.Worlds.{Steps, after, world_restart, world_step}

-- what a step gave, as it is answered
abbrev pub answer_of : World → ImagedStep → Answer
answer_of w given = record { reply = given.reply; read = read_after w.contexts given.context; sent = next_frames w (length given.outbox) }

pub record Arrives (w : World) (event : Event) (step : NodeEvent) (node : ImagedNode) (given : ImagedStep) : Type 0 where
  pub of_step : IsOfStep event
  pub low : node_of_event event < length w.nodes
  pub named : HasNamed w event
  pub doing : doing_in w event ≡ Step step
  pub restorable : IsRestorable (keeping (node_at w (node_of_event event)))
  pub held : IsTable node.state.table
  pub steps : IsImagedStep (node_at w (node_of_event event)) step node given

-- from what is known of the step of one of the nodes
pub arrives : (w now : World) → w ≡ now → (event : Event) (place : ℕ) (step : NodeEvent) (old node : ImagedNode) (given : ImagedStep) → IsOfStep event
    → place ≡ node_of_event event → place < length now.nodes → HasNamed now event → doing_in now event ≡ Step step → old ≡ get_or w.nodes place old
    → IsRestorable (keeping old) → IsTable node.state.table → IsImagedStep old step node given → Arrives w event step node given
arrives w now is event place step old node given of at here named doing there restorable held steps =
    let low : node_of_event event < length w.nodes = subst (λ (v : World). node_of_event event < length v.nodes) (sym is) (subst (λ m. m < length now.nodes) at here) in
    let same : old ≡ node_at w (node_of_event event) = same_node w (node_of_event event) old low (there ∙ ap (λ m. get_or w.nodes m old) at) in
    record {
      of_step = of;
      low = low;
      named = subst (λ (v : World). HasNamed v event) (sym is) named;
      doing = subst (λ (v : World). doing_in v event ≡ Step step) (sym is) doing;
      restorable = subst (λ m. IsRestorable (keeping m)) same restorable;
      held = held;
      steps = subst (λ m. IsImagedStep m step node given) same steps;
    }

-- the step is refused by its node
pub refuses : (w now : World) → w ≡ now → (event : Event) (place : ℕ) (step : NodeEvent) (old : ImagedNode) (by : StepFault) → IsOfStep event
    → place ≡ node_of_event event → place < length now.nodes → HasNamed now event → doing_in now event ≡ Step step → old ≡ get_or w.nodes place old
    → CanComeOf old.state step by → MayRefuse now event (of_step by)
refuses w now is event place step old by of at here named doing there cause =
    let low : node_of_event event < length w.nodes = subst (λ (v : World). node_of_event event < length v.nodes) (sym is) (subst (λ m. m < length now.nodes) at here) in
    let same : old ≡ node_at w (node_of_event event) = same_node w (node_of_event event) old low (there ∙ ap (λ m. get_or w.nodes m old) at) in
    subst (λ (v : World). MayRefuse v event (of_step by)) is
    (step_refused w event step by
    (all_there w event of low (subst (λ (v : World). HasNamed v event) (sym is) named))
    (subst (λ (v : World). doing_in v event ≡ Step step) (sym is) doing)
    (subst (λ (m : ImagedNode). CanComeOf m.state step by) same cause))

-- the world that is left
abbrev pub left : World → Event → ImagedNode → ImagedStep → World
left w event node given =
    after w (record { event = event; answer = answer_of w given }) (node_of_event event) node given.outbox (list_of given.context)

steps_of : (w : World) (event : Event) (step : NodeEvent) (node : ImagedNode) (given : ImagedStep) (is : Arrives w event step node given)
    → Steps w (record { event = event; answer = answer_of w given }) step is.steps.state (stepped_of given)
steps_of w event step node given is = record {
  low = is.low;
  named = named_of w event is.named;
  doing = is.doing;
  restorable = is.restorable;
  is_table = subst (λ (m : ImagedNode). IsTable m.state.table) is.steps.arrives is.held;
  makes = is.steps.step;
  leaves = each_step_leaves (node_at w (node_of_event event)).state step is.steps.state (stepped_of given) is.steps.step;
  reply = refl;
  read = ap (read_after w.contexts) is.steps.context;
  sent = refl;
}

pub step_world : (w : World) → IsWorld w → (event : Event) (step : NodeEvent) (node : ImagedNode) (given : ImagedStep) → Arrives w event step node given
    → IsWorld (left w event node given)
step_world w world event step node given is =
    let a : Accepted = record { event = event; answer = answer_of w given } in
    subst IsWorld (λ i. after w a (node_of_event event) (sym is.steps.arrives i) given.outbox (list_of (sym is.steps.context i)))
    (world_step w world a step is.steps.state (stepped_of given) (steps_of w event step node given is))

pub step_accepts : (w : World) (event : Event) (step : NodeEvent) (node : ImagedNode) (given : ImagedStep) → Arrives w event step node given
    → Accepts w event (answer_of w given) (left w event node given)
step_accepts w event step node given is =
    let makes : MakesStep w (node_of_event event) step (answer_of w given) (left w event node given) = record {
      state = is.steps.state;
      given = stepped_of given;
      makes = is.steps.step;
      nodes = ap (slice_set w.nodes (node_of_event event)) is.steps.arrives;
      frames = refl;
      contexts = ap (λ c. w.contexts ++ list_of c) is.steps.context;
      answers = ap (λ c. record { reply = given.reply; read = read_after w.contexts c; sent = next_frames w (length given.outbox) }) is.steps.context;
    } in
    record {
      no_refusal = step_accepted w event step is.steps.state (stepped_of given) (all_there w event is.of_step is.low is.named) is.doing is.steps.step;
      makes = subst (λ d. Makes w (node_of_event event) d (answer_of w given) (left w event node given)) (sym is.doing) makes;
      accepted = refl;
    }

-- ---- a restart

abbrev pub restart_answer : World → Answer
restart_answer w = record { reply = Done; read = None; sent = next_frames w 0 }

abbrev pub left_restarted : World → ℕ → ℕ → ImagedNode → World
left_restarted w n image node = record {
  nodes = slice_set w.nodes n node;
  accepted = w.accepted ++ (record { event = Restart n image; answer = restart_answer w }) ∷ [];
  frames = w.frames;
  contexts = w.contexts;
}

pub record Begins (w : World) (n image : ℕ) (node : ImagedNode) : Type 0 where
  pub low : n < length w.nodes
  pub there : image ≤ length (node_at w n).images
  pub left : (node_at w n).state.incarnation < most_incarnation
  pub restarts : IsRestarted (node_at w n) image node

pub restart_world : (w : World) → IsWorld w → (n image : ℕ) (node : ImagedNode) → Begins w n image node → IsWorld (left_restarted w n image node)
restart_world w world n image node is =
    let a : Accepted = record { event = Restart n image; answer = restart_answer w } in
    subst IsWorld (λ i. record {
      nodes = slice_set w.nodes n node;
      accepted = w.accepted ++ a ∷ [];
      frames = append-nil w.frames i;
      contexts = append-nil w.contexts i;
    })
    (world_restart w world n image (restart_answer w) node (record { low = is.low; left = is.left; restarts = is.restarts; reply = refl; read = refl; sent = refl }))

pub restart_accepts : (w : World) (n image : ℕ) (node : ImagedNode) → Begins w n image node → Accepts w (Restart n image) (restart_answer w) (left_restarted w n image node)
restart_accepts w n image node is = record {
  no_refusal = restart_accepted w n image is.low is.there is.left;
  makes = record { node = node; restarts = is.restarts; nodes = refl; frames = refl; contexts = refl; answers = refl };
  accepted = refl;
}

-- from what is known of the restart of one of the nodes
pub begins : (w now : World) → w ≡ now → (n id place image number : ℕ) (old node : ImagedNode) → id ≡ n → place ≡ id → id < length now.nodes → old ≡ get_or w.nodes place old
    → number ≡ image → image ≤ length (node_at now id).images → (node_at now id).state.incarnation < most_incarnation → IsRestarted old number node → Begins w n image node
begins w now is n id place image number old node named at low here same there left restarts =
    let low_here : n < length w.nodes = subst (λ (v : World). n < length v.nodes) (sym is) (subst (λ m. m < length now.nodes) named low) in
    let found : old ≡ node_at w n = same_node w n old low_here (here ∙ ap (λ m. get_or w.nodes m old) (at ∙ named)) in
    record {
      low = low_here;
      there = subst (λ (v : World). image ≤ length (node_at v n).images) (sym is) (subst (λ m. image ≤ length (node_at now m).images) named there);
      left = subst (λ (v : World). (node_at v n).state.incarnation < most_incarnation) (sym is) (subst (λ m. (node_at now m).state.incarnation < most_incarnation) named left);
      restarts = subst (λ m. IsRestarted m image node) found (subst (λ j. IsRestarted old j node) same restarts);
    }
