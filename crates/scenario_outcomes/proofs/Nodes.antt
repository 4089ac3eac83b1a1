-- A node of a world after a step or a restart, and what its step sent and read.
use Rattle.std.proofs.Common.{◌≡◌, ◌≢◌, ℕ, ◌+◌, ◌<◌, ◌≤◌, inl, inr, List, [], ◌∷◌, All, Option, Some, None, refl, sym, ap, subst, ◌∙◌, arith}
use Rattle.std.specs.FinMap.{find}
use Rattle.std.specs.Option.{unwrap_or}
use Rattle.std.proofs.lemmas.List.Elements.{All-cons, All-nil}
use Rattle.meta_types.specs.Name.{IsKey, Key}
use Rattle.meta_types.specs.Node.{IsNode}
use Rattle.meta_types.specs.Order.{key_cmp}
use Rattle.dvvset.specs.Object.{Entry, IsEntry, IsObject, IsVector}
use Rattle.dvvset.proofs.Objects.{IsVector-join}
use Rattle.meta_frame.specs.declared.message.Frame.{Frame}
use Rattle.meta_store.specs.Context.{Reading}
use Rattle.meta_store.specs.Table.{IsHeld, IsTable, Table, object_at}
use Rattle.meta_store.proofs.Tables.{found_row}
use Rattle.node_events.specs.Event.{stored_key}
use Rattle.node_events.specs.declared.event.NodeEvent.{NodeEvent}
use Rattle.node_events.specs.declared.event.NodeEvent.TheVariants.{Read, PutOver, Take}
use Rattle.node_core.specs.declared.state.Stepped.{Stepped}
use Rattle.node_core.specs.Leaving.{AreOfHeld, StepLeaves}
use Rattle.node_core.specs.Node.{NodeParts, opening, present}
use Rattle.node_core.specs.Step.{IsNodeStep}
use Rattle.node_core.proofs.Leaves.{each_step_leaves}
use Rattle.node_outcomes.specs.Lawful.{IsLawfulNode}
use Rattle.node_outcomes.specs.Outcome.{HasAnOutcome}
use Rattle.node_outcomes.proofs.Outcomes.{each_has_an_outcome, frame_outcome, frame_stays, nodes_stay_lawful}
use Rattle.restart_images.specs.Keeping.{IsRestorable, most_incarnation}
use Rattle.restart_images.specs.Node.{ImagedNode, IsRestarted, arrived, context_read, keeping, new_node, with_images}
use Rattle.restart_images.proofs.Stepping.{restart_restorable, step_restorable}
use Rattle.world_core.specs.Outcome.{list_of}
use Rattle.world_core.specs.Refusal.{IsFrame}
use Rattle.scenario_outcomes.specs.Lawful.{IsLawfulAt}
use Rattle.scenario_outcomes.proofs.Doings.{IsLawfulStep}

-- ---- a new node

empty_table : IsTable []
empty_table = record { rising = refl; keys = All-nil (λ row. IsKey row.0); few = omega arith; held = All-nil (λ row. IsHeld row.1) }

new_restorable : (n : ℕ) → IsRestorable (keeping (new_node n))
new_restorable n = record {
  earlier = record { earlier = λ at d low. absurd (let no : at < 0 = low in omega (arith, no)) };
  standing = omega arith;
  tabled = λ number low. record { table = []; is_table = empty_table; same = λ k. refl };
  lives = omega arith;
  within = λ k some. absurd (some refl);
}

pub new_at : (n : ℕ) → IsNode n → IsLawfulAt n (new_node n)
new_at n is = record {
  number = refl;
  state =
      nodes_stay_lawful.begins (opening n 1 [])
      (record { node = is; first = omega arith; life = omega arith; table = empty_table; begins = refl });
  images = new_restorable n;
}

-- ---- a step

pub step_outcome : (s : NodeParts) (step : NodeEvent) → IsLawfulNode s → IsLawfulStep step → HasAnOutcome s step
step_outcome s step is (inl lawful) = each_has_an_outcome.of_lawful s step is lawful
step_outcome s (Take bytes word) is (inr frame) = frame_outcome s is bytes word frame.frame frame.spelled
step_outcome s step is (inr never) = absurd never

step_lawful : (old : NodeParts) (step : NodeEvent) (new : NodeParts) (given : Stepped) → IsLawfulNode old → IsLawfulStep step
    → IsNodeStep old step new given → IsLawfulNode new
step_lawful old step new given is (inl lawful) makes = nodes_stay_lawful.steps old step new given is lawful makes
step_lawful old (Take bytes word) new given is (inr frame) makes = frame_stays old bytes word new given is makes
step_lawful old step new given is (inr never) makes = absurd never

pub stepped_at : (n : ℕ) (old : ImagedNode) (step : NodeEvent) (state : NodeParts) (given : Stepped) → IsLawfulAt n old → IsLawfulStep step
    → IsNodeStep old.state step state given → IsLawfulAt n (arrived state (stored_key step) old)
stepped_at n old step state given is lawful makes =
    let leaves : StepLeaves old.state step state given = each_step_leaves old.state step state given makes in
    let new : IsLawfulNode state = step_lawful old.state step state given is.state lawful makes in
    record {
      number = leaves.node ∙ is.number;
      state = new;
      images = step_restorable old step state given is.images new.table leaves;
    }

-- ---- a restart

restarted_is : (old : ImagedNode) (image : ℕ) (new : ImagedNode) → IsRestarted old image new → new ≡ with_images new.state old.images image
restarted_is old image new restarts = λ i. record { state = new.state; images = restarts.images i; standing = restarts.standing i }

pub restarted_at : (n : ℕ) (old : ImagedNode) (image : ℕ) (new : ImagedNode) → IsLawfulAt n old
    → old.state.incarnation ≢ most_incarnation → IsRestarted old image new → IsLawfulAt n new
restarted_at n old image new is left restarts =
    let b = restarts.begins in
    let within : old.state.incarnation ≤ 4294967295 = is.images.lives in
    let apart : old.state.incarnation ≢ 4294967295 = left in
    let before : old.state.incarnation < 4294967295 = omega (arith, within, apart) in
    let lawful : IsLawfulNode (opening old.state.node (old.state.incarnation + 1) b.table) =
    nodes_stay_lawful.begins (opening old.state.node (old.state.incarnation + 1) b.table)
    (record { node = is.state.node; first = omega arith; life = omega (arith, before); table = b.is_table; begins = refl }) in
    record {
      number = ap (λ (s : NodeParts). s.node) b.begins ∙ is.number;
      state = subst IsLawfulNode (sym b.begins) lawful;
      images =
          subst (λ node. IsRestorable (keeping node)) (sym (restarted_is old image new restarts))
          (restart_restorable old image b.table new.state is.images b.there before b.restored b.begins);
    }

-- ---- what a step sent, and read

pub sent_frames : (node : ℕ) (table : Table) (frames : List Frame) (sent : List (List ℕ)) → AreOfHeld node table frames sent
    → All IsFrame sent
sent_frames node table [] [] are = All-nil IsFrame
sent_frames node table [] (bytes ∷ later) are = absurd are
sent_frames node table (frame ∷ frames) [] are = absurd are
sent_frames node table (frame ∷ frames) (bytes ∷ later) are =
    All-cons IsFrame bytes later (record { frame = frame; spelled = are.0.0 }) (sent_frames node table frames later are.1)

held_lawful : (table : Table) (key : Key) (found : Option (List Entry)) → find key_cmp key table ≡ found → IsTable table
    → IsObject (unwrap_or found [])
held_lawful table key None e is = record { rising = tt; entries = All-nil IsEntry }
held_lawful table key (Some object) e is = (found_row key table object is.held is.keys e).held.lawful

present_read : (key : Key) (s : NodeParts) → IsTable s.table → All (λ (context : Reading). IsVector context.vector) (present key s ∷ [])
present_read key s is =
    let vector : IsVector (present key s).vector =
    IsVector-join (object_at s.table key) (held_lawful s.table key (find key_cmp key s.table) refl is) in
    All-cons (λ (context : Reading). IsVector context.vector) (present key s) [] vector
    (All-nil (λ (context : Reading). IsVector context.vector))

pub read_contexts : (step : NodeEvent) (s : NodeParts) → IsTable s.table
    → All (λ (context : Reading). IsVector context.vector) (list_of (context_read step s))
read_contexts (Read key) s is = present_read key s is
read_contexts (PutOver key value) s is = present_read key s is
read_contexts step s is = All-nil (λ (context : Reading). IsVector context.vector)
