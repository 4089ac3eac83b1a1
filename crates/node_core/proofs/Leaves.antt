-- What a step leaves is what its event does, and each frame that it sends carries what is held then.
use Rattle.std.proofs.Common.{◌≡◌, ℕ, Bool, true, false, cond, not, nat_lt, List, [], ◌∷◌, map, slice_index, All, Option, None, Some, refl, sym, ap, subst, ◌∙◌}
use Rattle.std.proofs.lemmas.Bool.{cond_both}
use Rattle.std.proofs.lemmas.List.Elements.{All-append, All-head, All-nil, All-push, All-tail}
use Rattle.meta_types.specs.Name.{Key}
use Rattle.meta_types.specs.Value.{ValueParts}
use Rattle.dvvset.specs.Object.{Entry}
use Rattle.dvvset.specs.Clock.{join}
use Rattle.meta_frame.specs.declared.message.Message.{Message}
use Rattle.meta_frame.specs.declared.message.Message.TheVariants.{Gossip, IHave, Graft, Prune, XRoot, XPrefixes, XInner, XLeaves, XBucket, XObject, XWant, Hello}
use Rattle.meta_frame.specs.Frame.{spelling}
use Rattle.meta_store.specs.Context.{Reading}
use Rattle.meta_store.specs.Step.{merge_of, object_after_put, table_after_merge}
use Rattle.meta_store.specs.Table.{Table, is_stale, with_object}
use Rattle.hash_tree.specs.Tree.{rows_of, tree_root}
use Rattle.exchange.specs.Answers.{answers_to}
use Rattle.peer_lists.specs.Lists.{has}
use Rattle.hyparview.specs.declared.event.ViewEvent.{ViewEvent}
use Rattle.hyparview.specs.declared.event.ViewEvent.TheVariants as OfViews
use Rattle.plumtree.specs.Broadcast as calls
use Rattle.plumtree.specs.Broadcast.{CastCall}
use Rattle.node_events.specs.declared.event.NodeEvent.{NodeEvent}
use Rattle.node_events.specs.declared.event.NodeEvent.TheVariants.{Read, Write, PutOver, Take, Tick, Join as JoinThrough, PeerDown, Exchange, Keep, Watch, Changes, Hello as SayHello, Leave}
use Rattle.node_events.specs.declared.fault.StepFault.{StepFault}
use Rattle.node_events.specs.declared.reply.Reply.{Reply}
use Rattle.node_overlay.specs.declared.envelope.Envelope.{Envelope}
use Rattle.node_overlay.specs.Ticking.{is_due}
use Rattle.node_overlay.specs.Outbox.{HasSpelling, count_on, frame_of, frames_from}
use Rattle.node_overlay.specs.Overlay.{envelope, out_of, sent_by_view}
use Rattle.node_core.specs.declared.state.Stepped.{Stepped}
use Rattle.node_core.specs.Node.{NodeParts, present, vector_under, writer}
use Rattle.node_core.specs.Draft.{NodeDraft, call_broadcast, change, change_under, envelope_of, hold, note, send_one, send_all, step_views}
use Rattle.node_core.specs.Rows.{Input, IsInput, Local, Received, count_tick, drop_neighbour, hear, is_fresh, merge, row_of_gossip, row_of_hello, row_of_message, row_of_input, row_of_event, tick, write}
use Rattle.node_core.specs.Step.{IsStepTo, begun}
use Rattle.node_core.specs.Leaving.{AreOfHeld, EachStepLeaves, LeavesHeld, StepLeaves, carried_object, with_carried}
use Rattle.node_core.proofs.Giving.{HoldsHeld, answers_carry_held, bare, broadcast_carries_held, views_carry_none}

-- ---- a node in the midst of a step, which began with these parts and holds this table now

pub record Leaves (s : NodeParts) (table : Table) (t : NodeDraft) : Type 0 where
  pub node : t.parts.node ≡ s.node
  pub life : t.parts.incarnation ≡ s.incarnation
  pub steps : t.parts.steps ≡ s.steps
  pub frames : t.parts.frames ≡ s.frames
  pub held : t.parts.table ≡ table
  pub sent : All (HoldsHeld t.parts.table) t.sent

module _ (s : NodeParts) where
  -- a step begins with nothing sent
  Leaves-begun : Leaves s s.table (begun s)
  Leaves-begun = record { node = refl; life = refl; steps = refl; frames = refl; held = refl; sent = All-nil (HoldsHeld s.table) }

  module _ (table : Table) where
    Leaves-send_one : (to : ℕ) (m : Message) (t : NodeDraft) → carried_object m ≡ None → Leaves s table t → Leaves s table (send_one to m t)
    Leaves-send_one to m t none h = record {
      node = h.node;
      life = h.life;
      steps = h.steps;
      frames = h.frames;
      held = h.held;
      sent = All-push (HoldsHeld t.parts.table) t.sent (envelope to m) h.sent (bare t.parts.table m none);
    }

    Leaves-call : (call : CastCall) (t : NodeDraft) → Leaves s table t → Leaves s table (call_broadcast call t)
    Leaves-call call t h = record {
      node = h.node;
      life = h.life;
      steps = h.steps;
      frames = h.frames;
      held = h.held;
      sent =
          All-append (HoldsHeld t.parts.table) t.sent (map (envelope_of t.parts.table) (out_of call t.parts.overlay)) h.sent
          (broadcast_carries_held t.parts.table call t.parts.overlay.cast);
    }

    Leaves-views : (event : ViewEvent) (word : ℕ) (t : NodeDraft) → Leaves s table t → Leaves s table (step_views event word t)
    Leaves-views event word t h = record {
      node = h.node;
      life = h.life;
      steps = h.steps;
      frames = h.frames;
      held = h.held;
      sent =
          All-append (HoldsHeld t.parts.table) t.sent (sent_by_view event word t.parts.overlay) h.sent
          (views_carry_none t.parts.table event word t.parts.overlay.views);
    }

  -- ---- the rows

  Leaves-change : (key : Key) (object : List Entry) → Leaves s (with_object key object s.table) (change key object (begun s))
  Leaves-change key object =
      let new = hold key object (begun s) in
      let table = with_object key object s.table in
      Leaves-call table (calls.Changes key (vector_under key new.parts)) (note (change_under key new.parts) new)
      (record { node = refl; life = refl; steps = refl; frames = refl; held = refl; sent = All-nil (HoldsHeld table) })

  Leaves-write : (key : Key) (value : ValueParts) (context : Option Reading)
      → Leaves s (with_object key (object_after_put s.table (writer s) key value context) s.table) (write key value context (begun s))
  Leaves-write key value context =
      let object = object_after_put s.table (writer s) key value context in
      let changed = change key object (begun s) in
      Leaves-call (with_object key object s.table) (calls.Broadcasts key (vector_under key changed.parts)) changed (Leaves-change key object)

  merged_where : (key : Key) (came : List Entry) (stale : Bool)
      → Leaves s (cond stale s.table (with_object key (merge_of s.table key came) s.table))
      (cond (not stale) (change key (merge_of s.table key came) (begun s)) (begun s))
  merged_where key came true = Leaves-begun
  merged_where key came false = Leaves-change key (merge_of s.table key came)

  Leaves-merge : (key : Key) (came : List Entry) → Leaves s (table_after_merge s.table key came) (merge key came (begun s))
  Leaves-merge key came = merged_where key came (is_stale s.table key (join came))

  Leaves-row_of_gossip : (from round : ℕ) (key : Key) (came : List Entry)
      → Leaves s (table_after_merge s.table key came) (row_of_gossip from round key came (begun s))
  Leaves-row_of_gossip from round key came =
      let merged = merge key came (begun s) in
      Leaves-call (table_after_merge s.table key came)
      (calls.gossip_call from round key (vector_under key merged.parts) (is_fresh key came s)) merged (Leaves-merge key came)

  Leaves-row_of_hello : (from life word : ℕ) → Leaves s s.table (row_of_hello from life word (begun s))
  Leaves-row_of_hello from life word =
      let heard = hear from life (begun s) in
      let known : Leaves s s.table heard = record { node = refl; life = refl; steps = refl; frames = refl; held = refl; sent = All-nil (HoldsHeld s.table) } in
      cond_both (nat_lt (slice_index s.heard from) life) (drop_neighbour from word heard) (begun s) (Leaves s s.table)
      (λ _. cond_both (has s.overlay.views.active from) (step_views (OfViews.PeerDown from) word heard) heard (Leaves s s.table)
      (λ _. Leaves-views s.table (OfViews.PeerDown from) word heard known) (λ _. known))
      (λ _. Leaves-begun)

  Leaves-reply : (from : ℕ) (m : Message) → Leaves s s.table (send_all from (answers_to s.table m) (begun s))
  Leaves-reply from m = record { node = refl; life = refl; steps = refl; frames = refl; held = refl; sent = answers_carry_held s.table from m }

  Leaves-tick : (word : ℕ) → Leaves s s.table (tick word (begun s))
  Leaves-tick word =
      let counted = count_tick (begun s) in
      let cast = call_broadcast calls.Tick counted in
      let after =
      Leaves-call s.table calls.Tick counted (record { node = refl; life = refl; steps = refl; frames = refl; held = refl; sent = All-nil (HoldsHeld s.table) }) in
      cond_both (is_due cast.parts.ticks) (step_views OfViews.ShuffleDue word cast) cast (Leaves s s.table)
      (λ _. Leaves-views s.table OfViews.ShuffleDue word cast after) (λ _. after)

  pub Leaves-row_of_message : (from word : ℕ) (m : Message)
      → Leaves s (with_carried (carried_object m) s.table) (row_of_message from word m (begun s))
  Leaves-row_of_message from word (Gossip round key object) = Leaves-row_of_gossip from round key object
  Leaves-row_of_message from word (IHave round key vector) =
      Leaves-call s.table (calls.TakesIHave from round key vector (is_stale s.table key vector)) (begun s) Leaves-begun
  Leaves-row_of_message from word (Graft round key vector) =
      Leaves-call s.table (calls.TakesGraft from round key (is_stale s.table key vector)) (begun s) Leaves-begun
  Leaves-row_of_message from word Prune = Leaves-call s.table (calls.TakesPrune from) (begun s) Leaves-begun
  Leaves-row_of_message from word (XRoot root) = Leaves-reply from (XRoot root)
  Leaves-row_of_message from word (XPrefixes prefixes) = Leaves-reply from (XPrefixes prefixes)
  Leaves-row_of_message from word (XInner prefix digests) = Leaves-reply from (XInner prefix digests)
  Leaves-row_of_message from word (XLeaves prefix inner digests) = Leaves-reply from (XLeaves prefix inner digests)
  Leaves-row_of_message from word (XBucket prefix leaf keys) = Leaves-reply from (XBucket prefix leaf keys)
  Leaves-row_of_message from word (XWant key) = Leaves-reply from (XWant key)
  Leaves-row_of_message from word (XObject key object) = Leaves-merge key object
  Leaves-row_of_message from word (Hello life) = Leaves-row_of_hello from life word
  Leaves-row_of_message from word message = Leaves-views s.table (OfViews.Taken from message) word (begun s) Leaves-begun

-- ---- the table

pub record LeavesBy (s : NodeParts) (event : NodeEvent) (t : NodeDraft) : Type 0 where
  pub node : t.parts.node ≡ s.node
  pub life : t.parts.incarnation ≡ s.incarnation
  pub steps : t.parts.steps ≡ s.steps
  pub frames : t.parts.frames ≡ s.frames
  pub held : LeavesHeld s event t.parts.table
  pub sent : All (HoldsHeld t.parts.table) t.sent

quiet : (s : NodeParts) (event : NodeEvent) (t : NodeDraft) → Leaves s s.table t → (t.parts.table ≡ s.table → LeavesHeld s event t.parts.table)
    → LeavesBy s event t
quiet s event t h held = record { node = h.node; life = h.life; steps = h.steps; frames = h.frames; held = held h.held; sent = h.sent }

own_event : (s : NodeParts) (event : NodeEvent) → IsInput event (Local event) → LeavesBy s event (row_of_event event (begun s))
own_event s (Read key) is = quiet s (Read key) (begun s) (Leaves-begun s) (λ e. e)
own_event s (Write key value context) is =
    let h = Leaves-write s key value context in
    record { node = h.node; life = h.life; steps = h.steps; frames = h.frames; held = h.held; sent = h.sent }
own_event s (PutOver key value) is =
    let h = Leaves-write s key value (Some (present key s)) in
    record { node = h.node; life = h.life; steps = h.steps; frames = h.frames; held = h.held; sent = h.sent }
own_event s (Take bytes word) is = absurd is
own_event s (Tick word) is = quiet s (Tick word) (tick word (begun s)) (Leaves-tick s word) (λ e. e)
own_event s (JoinThrough contact word) is =
    quiet s (JoinThrough contact word) (step_views (OfViews.JoinThrough contact) word (begun s))
    (Leaves-views s s.table (OfViews.JoinThrough contact) word (begun s) (Leaves-begun s)) (λ e. e)
own_event s (PeerDown peer word) is =
    quiet s (PeerDown peer word) (step_views (OfViews.PeerDown peer) word (begun s))
    (Leaves-views s s.table (OfViews.PeerDown peer) word (begun s) (Leaves-begun s)) (λ e. e)
own_event s (Exchange peer) is =
    let root = XRoot (tree_root (rows_of s.table)) in
    quiet s (Exchange peer) (send_one peer root (begun s)) (Leaves-send_one s s.table peer root (begun s) refl (Leaves-begun s)) (λ e. e)
own_event s (Keep key) is = quiet s (Keep key) (begun s) (Leaves-begun s) (λ e. e)
own_event s (Watch prefix capacity) is = record { node = refl; life = refl; steps = refl; frames = refl; held = refl; sent = All-nil (HoldsHeld s.table) }
own_event s (Changes number) is = record { node = refl; life = refl; steps = refl; frames = refl; held = refl; sent = All-nil (HoldsHeld s.table) }
own_event s (SayHello peer) is =
    quiet s (SayHello peer) (send_one peer (Hello s.incarnation) (begun s))
    (Leaves-send_one s s.table peer (Hello s.incarnation) (begun s) refl (Leaves-begun s)) (λ e. e)
own_event s Leave is =
    quiet s Leave (step_views OfViews.Leave 0 (begun s)) (Leaves-views s s.table OfViews.Leave 0 (begun s) (Leaves-begun s)) (λ e. e)

pub of_input : (s : NodeParts) (event : NodeEvent) (input : Input) → IsInput event input → LeavesBy s event (row_of_input input (begun s))
of_input s (Take bytes word) (Received frame w) is =
    let h = Leaves-row_of_message s frame.from w frame.message in
    record { node = h.node; life = h.life; steps = h.steps; frames = h.frames; held = record { frame = frame; spelled = is.0; merged = h.held }; sent = h.sent }
of_input s (Take bytes word) (Local own) is = absurd is
of_input s event (Local own) is = subst (λ own. LeavesBy s event (row_of_event own (begun s))) (sym is) (own_event s event refl)
of_input s event (Received frame w) is = absurd is

-- ---- a step

spelled_out : (node number : ℕ) (table : Table) (es : List Envelope) → All (HoldsHeld table) es
    → All HasSpelling (frames_from node number es)
    → AreOfHeld node table (frames_from node number es) (map spelling (frames_from node number es))
spelled_out node number table [] held spelled = tt
spelled_out node number table (e ∷ es) held spelled =
    let next = count_on number 1 in
    let first = frame_of node next e in (
      (All-head HasSpelling first (frames_from node next es) spelled, (refl, All-head (HoldsHeld table) e es held)),
      spelled_out node next table es (All-tail (HoldsHeld table) e es held) (All-tail HasSpelling first (frames_from node next es) spelled),
    )

step_leaves : (old new : NodeParts) (event : NodeEvent) (refusal : Option StepFault) (done : NodeDraft) (reply : Reply) (s : Stepped)
    → LeavesBy old event done → IsStepTo old refusal done reply new s → StepLeaves old event new s
step_leaves old new event refusal done reply s leaves step =
    let frames = frames_from old.node old.frames done.sent in
    let at_old : AreOfHeld old.node done.parts.table frames (map spelling frames) =
    spelled_out old.node old.frames done.parts.table done.sent leaves.sent step.frames in
    let at_done : AreOfHeld done.parts.node done.parts.table frames (map spelling frames) =
    subst (λ node. AreOfHeld node done.parts.table frames (map spelling frames)) (sym leaves.node) at_old in
    record {
      node = ap (λ (p : NodeParts). p.node) step.node ∙ leaves.node;
      life = ap (λ (p : NodeParts). p.incarnation) step.node ∙ leaves.life;
      held = subst (λ (p : NodeParts). LeavesHeld old event p.table) (sym step.node) leaves.held;
      frames = frames;
      sent =
          subst (λ (p : NodeParts). AreOfHeld p.node p.table frames s.outbox) (sym step.node)
          (subst (λ bytes. AreOfHeld done.parts.node done.parts.table frames bytes) (sym step.sends) at_done);
    }

pub each_step_leaves : EachStepLeaves
each_step_leaves old event new s is =
    step_leaves old new event _ (row_of_input is.input (begun old)) _ s (of_input old event is.input is.is_input) is.step
