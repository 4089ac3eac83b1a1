-- Each lawful event of a lawful node has an outcome, and nodes stay lawful.
use Rattle.std.proofs.Common.{◌≡◌, ◌≢◌, ℕ, ◌<◌, ◌≤◌, ◌^◌, ◌||◌, ◌⊎◌, inl, inr, nat_le, is_none, not, Bool, List, [], ◌∷◌, length, map, nat_eq, All, Option, Some, None, IfSome, refl, sym, subst}
use Rattle.std.specs.List.{AllByRecursion}
use Rattle.std.specs.Option.{option_map}
use Rattle.std.proofs.lemmas.Bool.{cond_both}
use Rattle.std.proofs.lemmas.List.Elements.{All-head, All-nil, All-tail}
use Rattle.meta_types.specs.First.{first_that_applies}
use Rattle.meta_types.specs.Node.{IsNode}
use Rattle.dvvset.specs.Object.{Entry}
use Rattle.dvvset.specs.Clock.{join}
use Rattle.meta_types.specs.Name.{Key}
use Rattle.meta_types.specs.Value.{ValueParts}
use Rattle.frame_fields.specs.Field.{has_value}
use Rattle.meta_frame.specs.Frame.{RefusesBytes, Spells, spelling}
use Rattle.meta_frame.specs.declared.fault.FrameFault.{FrameFault}
use Rattle.meta_frame.specs.declared.message.Frame.{Frame}
use Rattle.meta_frame.specs.declared.message.Message.{Message}
use Rattle.meta_frame.specs.declared.message.Message.TheVariants.{Gossip, XObject}
use Rattle.meta_frame.proofs.Frames.{frame_or_refusal}
use Rattle.meta_store.specs.Context.{Reading}
use Rattle.meta_store.specs.Step.{is_full_for, is_of_another_key, is_spent, merge_of, object_after_put}
use Rattle.meta_store.specs.Table.{IsTable, Table, is_small_enough, is_stale, most_merged, most_written}
use Rattle.meta_store.specs.declared.fault.StoreFault.{StoreFault}
use Rattle.meta_store.specs.declared.fault.StoreFault.TheVariants as OfStore
use Rattle.subscriptions.specs.declared.fault.WatchFault.{WatchFault}
use Rattle.subscriptions.specs.declared.fault.WatchFault.TheVariants as OfWatch
use Rattle.subscriptions.specs.Watches.{at_number, is_no_capacity, most_watches}
use Rattle.plumtree.specs.Missing.{MissingObject}
use Rattle.plumtree.specs.declared.entry.Announcement.{Announcement}
use Rattle.plumtree.specs.declared.entry.Announcer.{Announcer}
use Rattle.node_events.specs.declared.event.NodeEvent.{NodeEvent}
use Rattle.node_events.specs.declared.event.NodeEvent.TheVariants.{Write, PutOver, Take, Join, PeerDown, Exchange, Watch, Changes, Hello}
use Rattle.node_events.specs.declared.fault.StepFault.{StepFault}
use Rattle.node_events.specs.declared.fault.StepFault.TheVariants.{BadNode, BadWatch, Frame as OfFrame, Memory, NoSuchWatch, NotAddressed, Store}
use Rattle.node_events.specs.Fault.{of_store, of_watch}
use Rattle.node_overlay.specs.Outbox.{frames_from}
use Rattle.node_overlay.proofs.Naming.{names_others_on}
use Rattle.node_core.specs.declared.state.Stepped.{Stepped}
use Rattle.node_core.specs.Node.{NodeParts, opening, present, writer}
use Rattle.node_core.specs.Rows.{Input, IsInput, Local, Received}
use Rattle.node_core.specs.Run.{IsRun, events_of}
use Rattle.node_core.specs.Step.{IsNodeStep, node_after, node_draft_after, refusal_of, refusal_of_event, refusal_of_message, refusal_of_object, refusal_of_peer, refusal_of_write, reply_of}
use Rattle.node_outcomes.specs.Lawful.{IsLawfulOpening, IsLawfulEvent, IsLawfulNode}
use Rattle.node_outcomes.specs.Outcome.{EachEventHasAnOutcome, HasAnOutcome, NodesStayLawful}
use Rattle.node_outcomes.proofs.Keeping.{IsLawfulInput, IsLawfulNode-same, Keeps-row_of_input}
use Rattle.node_outcomes.proofs.Sending.{frames_spelled}

-- ---- no refusal but want of memory is want of memory

abbrev IsOther : Option StepFault → Type 0
IsOther refusal = IfSome refusal (λ fault. fault ≢ Memory)

not_bad_node : BadNode ≢ Memory
not_bad_node e = cc

not_not_addressed : NotAddressed ≢ Memory
not_not_addressed e = cc

not_frame : (fault : FrameFault) → OfFrame fault ≢ Memory
not_frame fault e = cc

not_store : (fault : StoreFault) → Store fault ≢ Memory
not_store fault e = cc

not_bad_watch : BadWatch ≢ Memory
not_bad_watch e = cc

not_no_such_watch : NoSuchWatch ≢ Memory
not_no_such_watch e = cc

first_other : {F : Type 0} (of : F → StepFault) (refusals : List (Bool × F))
    → AllByRecursion (λ (r : Bool × F). of r.1 ≢ Memory) refusals → IsOther (option_map of (first_that_applies refusals))
first_other of [] each = tt
first_other of (r ∷ refusals) each =
    cond_both r.0 (Some r.1) (first_that_applies refusals) (λ refusal. IsOther (option_map of refusal)) (λ _. each.0)
    (λ _. first_other of refusals each.1)

module _ (s : NodeParts) where
  peer_other : (peer : ℕ) → IsOther (refusal_of_peer peer s)
  peer_other peer = cond_both (nat_eq peer s.node) (Some BadNode) None IsOther (λ _. not_bad_node) (λ _. tt)

  write_other : (k : Key) (value : ValueParts) (context : Option Reading) → IsOther (refusal_of_write k value context s)
  write_other k value context =
      let object = object_after_put s.table (writer s) k value context in
      let refusals : List (Bool × StoreFault) =
      (is_of_another_key k context, OfStore.WrongKey)
      ∷ (is_full_for s.table k, OfStore.StoreFull)
      ∷ (is_spent s.table (writer s) k context, OfStore.CounterSpent)
      ∷ (not (is_small_enough most_written object), OfStore.ObjectTooLarge)
      ∷ [] in
      first_other of_store refusals
      (not_store OfStore.WrongKey, (not_store OfStore.StoreFull, (not_store OfStore.CounterSpent, (not_store OfStore.ObjectTooLarge, tt))))

  object_other : (k : Key) (came : List Entry) → IsOther (refusal_of_object k came s)
  object_other k came =
      let merged = merge_of s.table k came in
      let refusals : List (Bool × StoreFault) =
      (not (has_value merged), OfStore.BadEntries)
      ∷ (is_full_for s.table k, OfStore.StoreFull)
      ∷ (not (is_small_enough most_merged merged), OfStore.ObjectTooLarge)
      ∷ [] in
      cond_both (is_stale s.table k (join came)) None (first_that_applies refusals)
      (λ refusal. IsOther (option_map of_store refusal)) (λ _. tt)
      (λ _. first_other of_store refusals
      (not_store OfStore.BadEntries, (not_store OfStore.StoreFull, (not_store OfStore.ObjectTooLarge, tt))))

  message_other : (m : Message) → IsOther (refusal_of_message m s)
  message_other (Gossip round k came) = object_other k came
  message_other (XObject k came) = object_other k came
  message_other _ = tt

  event_other : (event : NodeEvent) → IsOther (refusal_of_event event s)
  event_other (Write k value context) = write_other k value context
  event_other (PutOver k value) = write_other k value (Some (present k s))
  event_other (Join contact word) = peer_other contact
  event_other (PeerDown peer word) = peer_other peer
  event_other (Exchange peer) = peer_other peer
  event_other (Hello peer) = peer_other peer
  event_other (Watch prefix capacity) =
      let refusals : List (Bool × WatchFault) =
      (is_no_capacity capacity || nat_le most_watches (length s.watches), OfWatch.BadWatch) ∷ [] in
      first_other of_watch refusals (not_bad_watch, tt)
  event_other (Changes number) =
      let refusals : List (Bool × WatchFault) = (is_none (at_number s.watches number), OfWatch.NoSuchWatch) ∷ [] in
      first_other of_watch refusals (not_no_such_watch, tt)
  event_other _ = tt

  input_other : (input : Input) → IsOther (refusal_of input s)
  input_other (Local event) = event_other event
  input_other (Received frame word) =
      cond_both (nat_eq frame.to s.node) (refusal_of_message frame.message s) (Some NotAddressed) IsOther
      (λ _. message_other frame.message) (λ _. not_not_addressed)

  -- ---- what was asked has an outcome

  module _ (h : IsLawfulNode s) where
    outcome_by : (event : NodeEvent) (input : Input) (refusal : Option StepFault) → IsInput event input → IsLawfulInput s h input
        → refusal_of input s ≡ refusal → HasAnOutcome s event
    outcome_by event input None is lawful accepted =
        let done = node_draft_after input s in
        inl (record {
          new = node_after input s;
          stepped = record { reply = reply_of input s; outbox = map spelling (frames_from s.node s.frames done.sent) };
          step = record {
            input = input;
            is_input = is;
            step = record {
              accepted = accepted;
              node = refl;
              replies = refl;
              sends = refl;
              frames = frames_spelled s.node s.frames done.sent h.node (Keeps-row_of_input s h input lawful accepted).sent;
            };
          };
        })
    outcome_by event input (Some fault) is lawful refused =
        inr (record {
          fault = fault;
          other = subst IsOther refused (input_other input);
          cause = inr (inr (record { input = input; is_input = is; first = refused }));
        })

    outcome_of : (event : NodeEvent) (input : Input) → IsInput event input → IsLawfulInput s h input → HasAnOutcome s event
    outcome_of event input is lawful = outcome_by event input (refusal_of input s) is lawful refl

    -- what spells a frame, even if the numbers in it were no bytes
    pub frame_outcome : (bytes : List ℕ) (word : ℕ) (frame : Frame) → Spells frame bytes → HasAnOutcome s (Take bytes word)
    frame_outcome bytes word frame spells = outcome_of (Take bytes word) (Received frame word) (spells, refl) spells.lawful

    taken_outcome : (bytes : List ℕ) (word : ℕ)
        → ((frame : Frame) × Spells frame bytes) ⊎ ((fault : FrameFault) × RefusesBytes bytes fault)
        → HasAnOutcome s (Take bytes word)
    taken_outcome bytes word (inl (frame, spells)) = frame_outcome bytes word frame spells
    taken_outcome bytes word (inr (fault, refuses)) =
        inr (record { fault = OfFrame fault; other = not_frame fault; cause = inr (inl refuses) })

    event_outcome : (event : NodeEvent) → IsLawfulEvent event → HasAnOutcome s event
    event_outcome (Take bytes word) lawful = taken_outcome bytes word (frame_or_refusal bytes lawful)
    event_outcome event lawful = outcome_of event (Local event) refl lawful

-- ---- nodes stay lawful

opening_lawful : (node incarnation : ℕ) (table : Table) → IsNode node → 1 ≤ incarnation → incarnation < 2 ^ 32 → IsTable table
    → IsLawfulNode (opening node incarnation table)
opening_lawful node incarnation table is first life tabled = record {
  node = is;
  life = life;
  in_life = record { own_views = refl; lives = first };
  table = tabled;
  overlay = names_others_on.begins node;
  active = All-nil IsNode;
  passive = All-nil IsNode;
  cast = record {
    eager = All-nil IsNode;
    lazy = All-nil IsNode;
    queue = All-nil (λ (a : Announcement). IsNode a.peer);
    missing = All-nil (λ (m : MissingObject). All (λ (a : Announcer). IsNode a.peer) m.announcers);
  };
}

begins_lawful : (s : NodeParts) → IsLawfulOpening s → IsLawfulNode s
begins_lawful s is =
    subst IsLawfulNode (sym is.begins) (opening_lawful s.node s.incarnation s.table is.node is.first is.life is.table)

frame_input : (s : NodeParts) (h : IsLawfulNode s) (bytes : List ℕ) (word : ℕ) (input : Input) → IsInput (Take bytes word) input
    → IsLawfulInput s h input
frame_input s h bytes word (Received frame w) is = is.0.lawful
frame_input s h bytes word (Local own) is = absurd is

lawful_input : (s : NodeParts) (h : IsLawfulNode s) (event : NodeEvent) (input : Input) → IsInput event input → IsLawfulEvent event
    → IsLawfulInput s h input
lawful_input s h (Take bytes word) (Received frame w) is lawful = frame_input s h bytes word (Received frame w) is
lawful_input s h (Take bytes word) (Local own) is lawful = absurd is
lawful_input s h event (Local own) is lawful = subst IsLawfulEvent (sym is) lawful
lawful_input s h event (Received frame w) is lawful = absurd is

input_stays : (old : NodeParts) (event : NodeEvent) (new : NodeParts) (s : Stepped) (h : IsLawfulNode old) (is : IsNodeStep old event new s)
    → IsLawfulInput old h is.input → IsLawfulNode new
input_stays old event new s h is lawful =
    let done = node_draft_after is.input old in
    let kept = Keeps-row_of_input old h is.input lawful is.step.accepted in
    subst IsLawfulNode (sym is.step.node)
    (IsLawfulNode-same done.parts.watches done.parts.heard (node_after is.input old).steps
    (node_after is.input old).frames done.parts.ticks done.parts kept.lawful)

step_stays : (old : NodeParts) (event : NodeEvent) (new : NodeParts) (s : Stepped) → IsLawfulNode old → IsLawfulEvent event
    → IsNodeStep old event new s → IsLawfulNode new
step_stays old event new s h lawful is =
    input_stays old event new s h is (lawful_input old h event is.input is.is_input lawful)

-- a step by what spells a frame, even if the numbers in it were no bytes
pub frame_stays : (old : NodeParts) (bytes : List ℕ) (word : ℕ) (new : NodeParts) (s : Stepped) → IsLawfulNode old
    → IsNodeStep old (Take bytes word) new s → IsLawfulNode new
frame_stays old bytes word new s h is =
    input_stays old (Take bytes word) new s h is (frame_input old h bytes word is.input is.is_input)

run_stays : (steps : List (NodeEvent × Stepped)) (old new : NodeParts) → IsLawfulNode old → All IsLawfulEvent (events_of steps)
    → IsRun old steps new → IsLawfulNode new
run_stays [] old new h lawful run = subst IsLawfulNode (sym run) h
run_stays (e ∷ es) old new h lawful run =
    run_stays es run.0 new (step_stays old e.0 run.0 e.1 h (All-head IsLawfulEvent e.0 (events_of es) lawful) run.1.0)
    (All-tail IsLawfulEvent e.0 (events_of es) lawful) run.1.1

pub nodes_stay_lawful : NodesStayLawful
nodes_stay_lawful = record {
  begins = begins_lawful;
  steps = step_stays;
  runs = run_stays;
}

pub each_has_an_outcome : EachEventHasAnOutcome
each_has_an_outcome = record {
  of_lawful = λ old event h lawful. event_outcome old h event lawful;
  after_runs = λ first steps old event begins all run lawful.
      event_outcome old (run_stays steps first old (begins_lawful first begins) all run) event lawful;
}
