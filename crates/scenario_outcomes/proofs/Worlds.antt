-- Worlds stay lawful, and each lawful event of a lawful world has an outcome.
use Rattle.std.proofs.Common.{◌≡◌, ◌≢◌, ℕ, ◌+◌, ◌<◌, ◌≤◌, inl, inr, true, false, eqb, List, [], ◌∷◌, ◌++◌, length, map, get_or, All, None, Result, Ok, Err, refl, sym, ap, subst, ◌∙◌, arith}
use Rattle.std.specs.List.{range_with_len}
use Rattle.std.proofs.lemmas.Bool.{eqb-false, eqb-true}
use Rattle.std.proofs.lemmas.List.{get_or-set_other, get_or-set_same, length-set}
use Rattle.std.proofs.lemmas.List.Elements.{All-append, All-head, All-nil, All-tail}
use Rattle.std.proofs.lemmas.List.FromFn.{get_or-map-range_with_len, length-map-range_with_len}
use Rattle.meta_types.specs.Node.{most_nodes}
use Rattle.dvvset.specs.Object.{IsVector}
use Rattle.meta_store.specs.Context.{Reading}
use Rattle.node_events.specs.Event.{stored_key}
use Rattle.node_events.specs.declared.event.NodeEvent.{NodeEvent}
use Rattle.node_events.specs.declared.fault.StepFault.{StepFault}
use Rattle.node_events.specs.declared.fault.StepFault.TheVariants as OfStep
use Rattle.node_events.specs.declared.reply.Reply.TheVariants.{Done}
use Rattle.node_core.specs.declared.state.Stepped.{Stepped}
use Rattle.node_core.specs.Leaving.{StepLeaves}
use Rattle.node_core.specs.Node.{opening}
use Rattle.node_core.proofs.Leaves.{each_step_leaves}
use Rattle.node_outcomes.specs.Outcome.{HasOtherCause, IsAccepted}
use Rattle.restart_images.specs.Images.{IsTabled, holdings}
use Rattle.restart_images.specs.Keeping.{most_incarnation}
use Rattle.restart_images.specs.Node.{ImagedNode, arrived, context_read, new_node, with_images}
use Rattle.world_core.specs.declared.answer.Answer.{Answer}
use Rattle.world_core.specs.declared.event.Event.{Event}
use Rattle.world_core.specs.declared.event.Event.TheVariants as events
use Rattle.world_core.specs.declared.fault.WorldFault.{WorldFault}
use Rattle.world_core.specs.declared.fault.WorldFault.TheVariants.{Memory}
use Rattle.world_core.specs.Events.{Begin, Doing, Step, node_of_event}
use Rattle.world_core.specs.Fault.{of_step}
use Rattle.world_core.specs.Outcome.{Accepts, Declines, Makes, MakesRestart, MakesStep, Outcome, Outcomes, list_of, next_frames, read_after, with_node}
use Rattle.world_core.specs.Refusal.{IsFrame, doing_in, node_at}
use Rattle.world_core.specs.World.{World, new_world}
use Rattle.world_core.proofs.Refusing.{AllThere, node_is_there, restart_accepted, step_accepted, step_refused}
use Rattle.scenario_outcomes.specs.Lawful.{IsLawfulWorldEvent, IsLawfulAt, IsLawfulWorld}
use Rattle.scenario_outcomes.specs.Outcome.{HasOutcome, WorldsStayLawful}
use Rattle.scenario_outcomes.proofs.Doings.{IsLawfulDoing, IsLawfulStep, lawful_doing}
use Rattle.scenario_outcomes.proofs.Nodes.{new_at, read_contexts, restarted_at, sent_frames, step_outcome, stepped_at}
use Rattle.scenario_outcomes.proofs.Refusals.{IsRefusedFirst, accepted_there, refused_or_there}

abbrev GaveVector : Reading → Type 0
GaveVector read = IsVector read.vector

-- ---- a new world

pub world_begins : (count : ℕ) → count ≤ most_nodes → IsLawfulWorld (new_world count)
world_begins count few =
    let nodes : List ImagedNode = map new_node (range_with_len 0 count) in
    let long : length nodes ≡ count = length-map-range_with_len new_node 0 count in
    let most : count ≤ 16 = few in
    record {
      most = subst (λ l. l ≤ 16) (sym long) most;
      nodes = λ n low.
          let here : n < count = subst (λ l. n < l) long low in
          subst (IsLawfulAt n) (sym (get_or-map-range_with_len new_node 0 count n n (new_node n) here (omega arith)))
          (new_at n (omega (arith, here, most)));
      frames = All-nil IsFrame;
      contexts = All-nil GaveVector;
    }

-- ---- a world with one node changed

module _ (old new : World) (n : ℕ) (node : ImagedNode) (is : IsLawfulWorld old) (nodes : new.nodes ≡ with_node old n node) where
  long : length new.nodes ≡ length old.nodes
  long = ap length nodes ∙ length-set old.nodes n node

  node_lawful : IsLawfulAt n node → (m : ℕ) → m < length new.nodes → IsLawfulAt m (node_at new m)
  node_lawful lawful m low =
      let here : m < length old.nodes = subst (λ l. m < l) long low in
      elim (eqb m n) as (λ test. eqb m n ≡ test → IsLawfulAt m (node_at new m)) [
        | true ↦ λ e.
            let same : n ≡ m = sym (eqb-true m n e) in
            subst (λ k. IsLawfulAt k (node_at new k)) same
            (subst (IsLawfulAt n) (sym (ap (λ ns. get_or ns n (new_node n)) nodes
            ∙ get_or-set_same old.nodes n node (new_node n) (subst (λ k. k < length old.nodes) (sym same) here))) lawful)
        | false ↦ λ e.
            subst (IsLawfulAt m) (sym (ap (λ ns. get_or ns m (new_node m)) nodes
            ∙ get_or-set_other old.nodes n m node (new_node m) (eqb-false m n e))) (is.nodes m here)
      ] refl

  changed_world : IsLawfulAt n node → All IsFrame new.frames → All GaveVector new.contexts → IsLawfulWorld new
  changed_world lawful frames contexts = record {
    most = subst (λ l. l ≤ 16) (sym long) is.most;
    nodes = node_lawful lawful;
    frames = frames;
    contexts = contexts;
  }

-- ---- worlds stay lawful

stepped_world : (old new : World) (n : ℕ) (step : NodeEvent) (answer : Answer) → IsLawfulWorld old → n < length old.nodes → IsLawfulStep step
    → MakesStep old n step answer new → IsLawfulWorld new
stepped_world old new n step answer is low lawful makes =
    let node : ImagedNode = node_at old n in
    let at : IsLawfulAt n node = is.nodes n low in
    let leaves : StepLeaves node.state step makes.state makes.given = each_step_leaves node.state step makes.state makes.given makes.makes in
    changed_world old new n (arrived makes.state (stored_key step) node) is makes.nodes
    (stepped_at n node step makes.state makes.given at lawful makes.makes)
    (subst (All IsFrame) (sym makes.frames)
    (All-append IsFrame old.frames makes.given.outbox is.frames
    (sent_frames makes.state.node makes.state.table leaves.frames makes.given.outbox leaves.sent)))
    (subst (All GaveVector) (sym makes.contexts)
    (All-append GaveVector old.contexts (list_of (context_read step node.state)) is.contexts (read_contexts step node.state at.state.table)))

restarted_world : (old new : World) (n image : ℕ) (answer : Answer) → IsLawfulWorld old → n < length old.nodes
    → (node_at old n).state.incarnation ≢ most_incarnation → MakesRestart old n image answer new → IsLawfulWorld new
restarted_world old new n image answer is low left makes =
    changed_world old new n makes.node is makes.nodes
    (restarted_at n (node_at old n) image makes.node (is.nodes n low) left makes.restarts)
    (subst (All IsFrame) (sym makes.frames) is.frames)
    (subst (All GaveVector) (sym makes.contexts) is.contexts)

made_world : (old new : World) (n : ℕ) (doing : Doing) (answer : Answer) → IsLawfulWorld old → n < length old.nodes
    → IsLawfulDoing (node_at old n) doing → Makes old n doing answer new → IsLawfulWorld new
made_world old new n (Step step) answer is low lawful makes = stepped_world old new n step answer is low lawful makes
made_world old new n (Begin image) answer is low lawful makes = restarted_world old new n image answer is low lawful.1 makes

accepted_world : (old new : World) (event : Event) (answer : Answer) → IsLawfulWorld old → IsLawfulWorldEvent event
    → Accepts old event answer new → IsLawfulWorld new
accepted_world old new event answer is brings accepts =
    let there : AllThere old event = accepted_there old event accepts.no_refusal in
    made_world old new (node_of_event event) (doing_in old event) answer is (node_is_there old event there.node)
    (lawful_doing old event is brings there) accepts.makes

pub event_stays : (old new : World) (event : Event) (outcome : Result Answer WorldFault) → IsLawfulWorld old → IsLawfulWorldEvent event
    → Outcome old event outcome new → IsLawfulWorld new
unfolding Outcome
event_stays old new event (Ok answer) is brings accepts = accepted_world old new event answer is brings accepts
event_stays old new event (Err fault) is brings declines = subst IsLawfulWorld (sym declines.same) is

run_stays : (old : World) (passed : List Event) (outcomes : List (Result Answer WorldFault)) (new : World) → IsLawfulWorld old
    → All IsLawfulWorldEvent passed → Outcomes old passed outcomes new → IsLawfulWorld new
run_stays old [] [] new is all ran = subst IsLawfulWorld (sym ran) is
run_stays old [] (o ∷ os) new is all ran = absurd ran
run_stays old (e ∷ es) [] new is all ran = absurd ran
run_stays old (e ∷ es) (o ∷ os) new is all ran =
    run_stays ran.0 es os new
    (event_stays old ran.0 e o is (All-head IsLawfulWorldEvent e es all) ran.1.0.comes)
    (All-tail IsLawfulWorldEvent e es all) ran.1.1

pub worlds_stay_lawful : WorldsStayLawful
worlds_stay_lawful = record { begins = world_begins; events = event_stays; runs = λ old new passed outcomes. run_stays old passed outcomes new }

-- ---- each event has an outcome

accepted_is : (old : World) (event : Event) (answer : Answer) (new : World) → Accepts old event answer new → Outcome old event (Ok answer) new
unfolding Outcome
accepted_is old event answer new accepts = accepts

refused_is : (old : World) (event : Event) (fault : WorldFault) (new : World) → Declines old event fault new → Outcome old event (Err fault) new
unfolding Outcome
refused_is old event fault new declines = declines

accepted_outcome : (old : World) (event : Event) (answer : Answer) (new : World) → Accepts old event answer new → HasOutcome old event
accepted_outcome old event answer new accepts = record {
  outcome = Ok answer;
  new = new;
  comes = accepted_is old event answer new accepts;
  had_memory = λ e. cc;
}

refused_outcome : (old : World) (event : Event) (fault : WorldFault) → Declines old event fault old → fault ≢ Memory → HasOutcome old event
refused_outcome old event fault declines other = record {
  outcome = Err fault;
  new = old;
  comes = refused_is old event fault old declines;
  had_memory = λ e. other (cc e);
}

other_fault : (fault : StepFault) → fault ≢ OfStep.Memory → of_step fault ≢ Memory
other_fault OfStep.Memory other e = other refl
other_fault fault other e = cc

-- ---- of a step

module _ (w : World) (event : Event) (there : AllThere w event) (step : NodeEvent) (doing : doing_in w event ≡ Step step) where
  abbrev n : ℕ
  n = node_of_event event

  abbrev node : ImagedNode
  node = node_at w n

  step_answer : Stepped → Answer
  step_answer given = record {
    reply = given.reply;
    read = read_after w.contexts (context_read step node.state);
    sent = next_frames w (length given.outbox);
  }

  after_step : IsAccepted node.state step → World
  after_step accepted = record {
    nodes = with_node w n (arrived accepted.new (stored_key step) node);
    accepted = w.accepted ++ (record { event = event; answer = step_answer accepted.stepped }) ∷ [];
    frames = w.frames ++ accepted.stepped.outbox;
    contexts = w.contexts ++ list_of (context_read step node.state);
  }

  accepted_step : IsAccepted node.state step → HasOutcome w event
  unfolding step_answer after_step
  accepted_step accepted =
      accepted_outcome w event (step_answer accepted.stepped) (after_step accepted)
      (record {
        no_refusal = step_accepted w event step accepted.new accepted.stepped there doing accepted.step;
        makes =
            subst (λ d. Makes w n d (step_answer accepted.stepped) (after_step accepted)) (sym doing)
            (record {
              state = accepted.new;
              given = accepted.stepped;
              makes = accepted.step;
              nodes = refl;
              frames = refl;
              contexts = refl;
              answers = refl;
            });
        accepted = refl;
      })

  refused_step : HasOtherCause node.state step → HasOutcome w event
  refused_step refused =
      refused_outcome w event (of_step refused.fault)
      (record { cause = step_refused w event step refused.fault there doing refused.cause; same = refl })
      (other_fault refused.fault refused.other)

  outcome_of_step : IsLawfulWorld w → IsLawfulStep step → HasOutcome w event
  outcome_of_step is lawful =
      elim (step_outcome node.state step (is.nodes n (node_is_there w event there.node)).state lawful) as (λ _. HasOutcome w event) [
        | inl accepted ↦ accepted_step accepted
        | inr refused ↦ refused_step refused
      ]

-- ---- of a restart

module _ (w : World) (n image : ℕ) (low : n < length w.nodes) (is : IsLawfulWorld w) where
  abbrev restarts : Event
  restarts = events.Restart n image

  outcome_of_restart : image ≤ length (node_at w n).images → (node_at w n).state.incarnation ≢ most_incarnation → HasOutcome w restarts
  outcome_of_restart here left =
      let old : ImagedNode = node_at w n in
      let at : IsLawfulAt n old = is.nodes n low in
      let within : old.state.incarnation ≤ 4294967295 = at.images.lives in
      let apart : old.state.incarnation ≢ 4294967295 = left in
      let before : old.state.incarnation < 4294967295 = omega (arith, within, apart) in
      let tabled : IsTabled (holdings old.images image) = at.images.tabled image here in
      let node : ImagedNode = with_images (opening old.state.node (old.state.incarnation + 1) tabled.table) old.images image in
      let answer : Answer = record { reply = Done; read = None; sent = next_frames w 0 } in
      accepted_outcome w restarts answer
      (record {
        nodes = with_node w n node;
        accepted = w.accepted ++ (record { event = restarts; answer = answer }) ∷ [];
        frames = w.frames;
        contexts = w.contexts;
      })
      (record {
        no_refusal = restart_accepted w n image low here before;
        makes = record {
          node = node;
          restarts = record {
            begins = record {
              there = here;
              table = tabled.table;
              is_table = tabled.is_table;
              restored = tabled.same;
              begins = refl;
            };
            images = refl;
            standing = refl;
          };
          nodes = refl;
          frames = refl;
          contexts = refl;
          answers = refl;
        };
        accepted = refl;
      })

-- ---- of an event

outcome_there : (w : World) (event : Event) → IsLawfulWorld w → AllThere w event
    → IsLawfulDoing (node_at w (node_of_event event)) (doing_in w event) → HasOutcome w event
outcome_there w (events.Step n step) is there lawful = outcome_of_step w (events.Step n step) there step refl is lawful
outcome_there w (events.Put n key value read) is there lawful = outcome_of_step w (events.Put n key value read) there _ refl is lawful
outcome_there w (events.Deliver frame n word) is there lawful = outcome_of_step w (events.Deliver frame n word) there _ refl is lawful
outcome_there w (events.Restart n image) is there lawful =
    outcome_of_restart w n image (node_is_there w (events.Restart n image) there.node) is lawful.0 lawful.1

refused_first : (w : World) (event : Event) → IsRefusedFirst w event → HasOutcome w event
refused_first w event first =
    refused_outcome w event first.fault (record { cause = inr first.refuses; same = refl }) first.other

pub outcome_of : (w : World) (event : Event) → IsLawfulWorld w → IsLawfulWorldEvent event → HasOutcome w event
outcome_of w event is brings =
    elim (refused_or_there w event brings) as (λ _. HasOutcome w event) [
      | inl first ↦ refused_first w event first
      | inr there ↦ outcome_there w event is there (lawful_doing w event is brings there)
    ]
