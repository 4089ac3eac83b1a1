-- A step of a node: what its event tells is what the node then holds.
use Rattle.std.proofs.Common.{◌≡◌, ℕ, ◌+◌, ◌<◌, ◌≤◌, List, [], ◌∷◌, ◌++◌, length, get_or, Option, Some, None, refl, sym, ap, subst, ◌∙◌, arith}
use Rattle.std.specs.Prelude.{slice_set}
use Rattle.std.specs.Option.{option_flatten, option_map, unwrap_or}
use Rattle.std.proofs.lemmas.List.{append-nil, set-get_or}
use Rattle.meta_types.specs.Actor.{node_of_writer, writer_number}
use Rattle.meta_types.specs.Name.{Key}
use Rattle.meta_types.specs.Value.{ValueParts}
use Rattle.dvvset.specs.Object.{Entry}
use Rattle.dvvset.specs.Clock.{join}
use Rattle.meta_frame.specs.Frame.{Spells}
use Rattle.meta_frame.specs.declared.message.Frame.{Frame}
use Rattle.meta_store.specs.Context.{Reading, vector_read}
use Rattle.meta_store.specs.Table.{IsTable, Table, with_object}
use Rattle.meta_store.specs.Step.{object_after_put, refusal_of_put}
use Rattle.meta_store.specs.declared.fault.StoreFault.{StoreFault}
use Rattle.node_events.specs.Fault.{of_store}
use Rattle.node_events.specs.Event.{stored_key}
use Rattle.node_events.specs.declared.event.NodeEvent.{NodeEvent}
use Rattle.node_events.specs.declared.event.NodeEvent.TheVariants as OfNode
use Rattle.node_core.specs.declared.state.Stepped.{Stepped}
use Rattle.node_core.specs.Leaving.{StepLeaves, carried_object, with_carried}
use Rattle.node_core.specs.Node.{NodeParts, present, writer}
use Rattle.node_core.specs.Rows.{Input, IsInput, Local, Received}
use Rattle.node_core.specs.Step.{IsNodeStep, IsStepOf, refusal_of}
use Rattle.past_model.specs.declared.happening.Happening.{Happening}
use Rattle.past_model.specs.declared.happening.Happening.TheVariants.{Wrote, Looked, Sent, Got, Kept}
use Rattle.past_model.specs.History.{Fits, IsHistory, most_restarts}
use Rattle.past_model.specs.Past.{past}
use Rattle.past_model.proofs.EachLife.{few_restarts}
use Rattle.past_model.specs.Objects.{held_object, object_of_read, seen_object, sent_object}
use Rattle.past_model.specs.Objects as objects
use Rattle.past_model.proofs.Changes.{after_look}
use Rattle.past_model.proofs.Matching.{same_lives}
use Rattle.restart_images.specs.Keeping.{IsRestorable, Keeping, change_at}
use Rattle.restart_images.proofs.Keepings.{with_image, with_merge}
use Rattle.restart_images.specs.Node.{ImagedNode, arrived, context_read, keeping}
use Rattle.restart_images.specs.Follows.{FollowsHistory}
use Rattle.restart_images.proofs.Noding.{held_at, put_grows}
use Rattle.world_core.specs.declared.event.Event.{Event}
use Rattle.world_core.specs.declared.event.Event.TheVariants as events
use Rattle.world_core.specs.Events.{Begin, Doing, Step, doing_of, node_of_event}
use Rattle.world_core.specs.Outcome.{list_of, read_after}
use Rattle.world_core.specs.Numbers.{numbered}
use Rattle.world_core.specs.Tells.{NamesEarlier, Pairwise, Told, next_read, sending_of, tell, tell_event, tell_got, tell_look}
use Rattle.world_core.specs.Invariant.{IsRead, IsState, IsTold}
use Rattle.world_core.proofs.Named.{can_read, not_both, same_object, told_as}
use Rattle.world_core.proofs.Lists.{pair_length, slice_get_end}
use Rattle.world_core.proofs.States.{state_keep, state_look, state_take, state_write}

-- ---- the life that a node is in, by the node and by the history

life_is : (hs : List Happening) (n : ℕ) (node : Keeping) → FollowsHistory hs n node → node.incarnation ≡ (past hs).restarts n + 1
life_is hs n node f = f.life ∙ same_lives hs n

-- whose node it is
actor_node : (hs : List Happening) (n : ℕ) (node : Keeping) → IsHistory hs → FollowsHistory hs n node → node_of_writer (writer_number n node.incarnation) ≡ n
actor_node hs n node history f =
    let life : node.incarnation ≡ (past hs).restarts n + 1 = life_is hs n node f in
    let few : (past hs).restarts n ≤ most_restarts = few_restarts hs n history in
    omega (arith, life, few)

-- ---- a step of a node of a world

pub record Stepping (ns : List Keeping) (n : ℕ) (old : ImagedNode) (step : NodeEvent) (state : NodeParts) (s : Stepped) : Type 0 where
  pub low : n < length ns
  pub at : keeping old ≡ get_or ns n (keeping old)
  pub number : old.state.node ≡ n
  pub restorable : IsRestorable (keeping old)
  pub is_table : IsTable state.table
  pub makes : IsNodeStep old.state step state s
  pub leaves : StepLeaves old.state step state s

stands : (ns : List Keeping) (contexts : List Reading) (sent : List Frame) (t : Told) (n : ℕ) (old : ImagedNode) (step : NodeEvent) (state : NodeParts) (s : Stepped)
    → IsState ns contexts sent t → Stepping ns n old step state s → FollowsHistory t.history n (keeping old)
stands ns contexts sent t n old step state s is st = subst (FollowsHistory t.history n) (sym st.at) (is.nodes n (keeping old) st.low)

-- ---- if all that is held stays

kept_keeping : (old : ImagedNode) (state : NodeParts) → state.table ≡ old.state.table → state.incarnation ≡ old.state.incarnation
    → keeping (arrived state None old) ≡ keeping old
kept_keeping old state table life = λ i. record {
  table = table i;
  images = old.images;
  standing = old.standing;
  incarnation = life i;
}

state_same : (ns : List Keeping) (contexts : List Reading) (sent : List Frame) (t : Told) (n : ℕ) (old : ImagedNode) (state : NodeParts)
    → keeping old ≡ get_or ns n (keeping old) → state.table ≡ old.state.table → state.incarnation ≡ old.state.incarnation → IsState ns contexts sent t
    → IsState (slice_set ns n (keeping (arrived state None old))) contexts sent t
state_same ns contexts sent t n old state at table life is =
    let same : slice_set ns n (keeping (arrived state None old)) ≡ ns =
    ap (slice_set ns n) (kept_keeping old state table life ∙ at) ∙ set-get_or ns n (keeping old) in
    subst (λ (ms : List Keeping). IsState ms contexts sent t) (sym same) is

-- the same, if no context is handed out
quiet : (ns : List Keeping) (contexts : List Reading) (sent : List Frame) (t : Told) (n : ℕ) (old : ImagedNode) (state : NodeParts)
    → keeping old ≡ get_or ns n (keeping old) → state.table ≡ old.state.table → state.incarnation ≡ old.state.incarnation → IsState ns contexts sent t
    → IsState (slice_set ns n (keeping (arrived state None old))) (contexts ++ []) sent t
quiet ns contexts sent t n old state at table life is =
    subst (λ cs. IsState (slice_set ns n (keeping (arrived state None old))) cs sent t) (sym (append-nil contexts))
    (state_same ns contexts sent t n old state at table life is)

-- ---- writes

imaged_keeping : (old : ImagedNode) (state : NodeParts) (k : Key) (table : Table) → state.table ≡ table → state.incarnation ≡ old.state.incarnation
    → keeping (arrived state (Some k) old) ≡ with_image table k (keeping old)
imaged_keeping old state k table is life = λ i. record {
  table = is i;
  images = old.images ++ (record { base = old.standing; change = change_at (is i) k }) ∷ [];
  standing = length old.images + 1;
  incarnation = life i;
}

taken_by : (refusal : Option StoreFault) → option_map of_store refusal ≡ None → refusal ≡ None
taken_by None e = refl
taken_by (Some fault) e = cc

write_by : (old state : NodeParts) (k : Key) (v : ValueParts) (context : Option Reading) (s : Stepped) (input : Input)
    → IsInput (OfNode.Write k v context) input → IsStepOf old input state s → refusal_of_put old.table (writer old) k v context ≡ None
write_by old state k v context s (Local same) is step =
    taken_by (refusal_of_put old.table (writer old) k v context) (ap (λ e. refusal_of (Local e) old) (sym is) ∙ step.accepted)
write_by old state k v context s (Received f w) is step = absurd is

-- the node and what a write needs of it
record Writing (ns : List Keeping) (n : ℕ) (k : Key) (v : ValueParts) (context : Option Reading) (old : ImagedNode) (state : NodeParts) : Type 0 where
  low : n < length ns
  at : keeping old ≡ get_or ns n (keeping old)
  number : old.state.node ≡ n
  restorable : IsRestorable (keeping old)
  is_table : IsTable state.table
  held : state.table ≡ with_object k (object_after_put old.state.table (writer old.state) k v context) old.state.table
  life : state.incarnation ≡ old.state.incarnation

-- what a step needs that writes so
writing : (ns : List Keeping) (n : ℕ) (k : Key) (v : ValueParts) (context : Option Reading) (old : ImagedNode) (state : NodeParts) (s : Stepped)
    → Stepping ns n old (OfNode.Write k v context) state s → Writing ns n k v context old state
writing ns n k v context old state s st = record {
  low = st.low;
  at = st.at;
  number = st.number;
  restorable = st.restorable;
  is_table = st.is_table;
  held = st.leaves.held;
  life = st.leaves.life;
}

state_written : (ns : List Keeping) (contexts : List Reading) (sent : List Frame) (t : Told) (n : ℕ) (k : Key) (v : ValueParts) (r : Option ℕ) (context : Option Reading)
    (old : ImagedNode) (state : NodeParts) → Writing ns n k v context old state → IsState ns contexts sent t
    → Fits t.history (Wrote n k v r) → vector_read context ≡ join (object_of_read t.history k r)
    → IsState (slice_set ns n (keeping (arrived state (Some k) old))) contexts sent (tell (Wrote n k v r) t)
state_written ns contexts sent t n k v r context old state w s fits read =
    let o : List Entry = object_after_put old.state.table (writer old.state) k v context in
    let f : FollowsHistory t.history n (keeping old) = subst (FollowsHistory t.history n) (sym w.at) (s.nodes n (keeping old) w.low) in
    let actor : writer old.state ≡ objects.next_writer t.history n = ap (λ m. writer_number m old.state.incarnation) w.number ∙ ap (writer_number n) f.life in
    subst (λ node. IsState (slice_set ns n node) contexts sent (tell (Wrote n k v r) t))
    (sym (imaged_keeping old state k (with_object k o old.state.table) w.held w.life))
    (state_write ns contexts sent t n (writer old.state) k v r context (keeping old) actor s w.low w.at w.restorable
    (put_grows old.state.table k o (held_at old.state.table k o (subst IsTable w.held w.is_table))) fits read)

-- ---- reads

-- the context that a read hands out is of what the node holds
state_looked : (ns : List Keeping) (contexts : List Reading) (sent : List Frame) (t : Told) (n : ℕ) (k : Key) (old : ImagedNode)
    → n < length ns → keeping old ≡ get_or ns n (keeping old) → old.state.node ≡ n → IsState ns contexts sent t
    → IsState ns (contexts ++ present k old.state ∷ []) sent (tell_look n k t)
state_looked ns contexts sent t n k old low at number s =
    let f : FollowsHistory t.history n (keeping old) = subst (FollowsHistory t.history n) (sym at) (s.nodes n (keeping old) low) in
    state_look ns contexts sent t n k (present k old.state) s
    (ap (λ m. node_of_writer (writer_number m old.state.incarnation)) number ∙ actor_node t.history n (keeping old) s.is_history f)
    refl (ap join (f.holds k))

-- the number of the next read, by what was told
next_is : (t : Told) (contexts : List Reading) → Pairwise (IsRead t.history) t.looks contexts → Some (length contexts + 1) ≡ Some (length t.looks + 1)
next_is t contexts reads =
    let many : length t.looks ≡ length contexts = pair_length (IsRead t.history) t.looks contexts reads in
    ap (λ number. Some (number + 1)) (sym many)

-- ---- a delivery

-- what the frame carries was sent at the place that its number was told as
state_merged : (ns : List Keeping) (contexts : List Reading) (sent : List Frame) (t : Told) (n : ℕ) (old : ImagedNode) (state : NodeParts) (f : Frame) (entry : Option ℕ)
    → n < length ns → keeping old ≡ get_or ns n (keeping old) → IsState ns contexts sent t → IsTold t.history f entry
    → (carried : Option (Key × List Entry)) → carried_object f.message ≡ carried → state.table ≡ with_carried carried old.state.table → state.incarnation ≡ old.state.incarnation
    → IsState (slice_set ns n (keeping (arrived state None old))) contexts sent (tell_got n entry t)
state_merged ns contexts sent t n old state f None low at s told None carries table life = state_same ns contexts sent t n old state at table life s
state_merged ns contexts sent t n old state f None low at s told (Some (k, o)) carries table life =
    absurd (not_both (carried_object f.message) (k, o) told carries)
state_merged ns contexts sent t n old state f (Some place) low at s told None carries table life =
    absurd (not_both (carried_object f.message) (told.key, sent_object t.history place told.key) carries told.carries)
state_merged ns contexts sent t n old state f (Some place) low at s told (Some (k, o)) carries table life =
    let same : (told.key ≡ k) × (o ≡ sent_object t.history place told.key) =
    same_object (carried_object f.message) k told.key o (sent_object t.history place told.key) carries told.carries in
    let node : keeping (arrived state None old) ≡ with_merge k o (keeping old) = λ i. record {
      table = table i;
      images = old.images;
      standing = old.standing;
      incarnation = life i;
    } in
    subst (λ node. IsState (slice_set ns n node) contexts sent (tell (Got n place) t)) (sym node)
    (state_take ns contexts sent t n place f.from k o (keeping old) s low at
    (told.sent ∙ ap (λ l. Some (Sent f.from l)) same.0) (same.1 ∙ ap (sent_object t.history place) same.0))

-- ---- each event

-- what an event does, and what holds of its step
abbrev pub ForStep : Doing → (NodeEvent → Type 0) → Type 0
ForStep (Step step) P = P step
ForStep (Begin image) P = ⊥

abbrev pub key_of : Doing → Option Key
key_of (Step step) = stored_key step
key_of (Begin image) = None

abbrev pub context_in : Doing → NodeParts → Option Reading
context_in (Step step) s = context_read step s
context_in (Begin image) s = None

-- no context and no bytes come with what a node is asked
abbrev pub BringsNothing : NodeEvent → Type 0
BringsNothing (OfNode.Write k v (Some context)) = ⊥
BringsNothing (OfNode.Take bytes word) = ⊥
BringsNothing event = Unit {0}

-- what an event names is there, in these lists
abbrev pub IsNamed : List Reading → List (List ℕ) → Event → Type 0
IsNamed contexts spellings (events.Step n event) = BringsNothing event
IsNamed contexts spellings (events.Put n k v read) = (context : Reading) × (numbered contexts read ≡ Some context)
IsNamed contexts spellings (events.Deliver frame n word) = (bytes : List ℕ) × (numbered spellings frame ≡ Some bytes)
IsNamed contexts spellings (events.Restart n image) = Unit {0}

-- before what it sends: the state after it, and that it names what is there
pub record Happens (ns : List Keeping) (contexts : List Reading) (sent : List Frame) (t : Told) (event : Event) (doing : Doing) (old : ImagedNode) (state : NodeParts) : Type 0 where
  pub state_is : IsState (slice_set ns (node_of_event event) (keeping (arrived state (key_of doing) old))) (contexts ++ list_of (context_in doing old.state)) sent (tell_event event t)
  pub named : NamesEarlier t event
  pub read : read_after contexts (context_in doing old.state) ≡ next_read t event

pub happens : (ns : List Keeping) (contexts : List Reading) (spellings : List (List ℕ)) (sent : List Frame) (t : Told) (event : Event) (old : ImagedNode) (state : NodeParts) (s : Stepped)
    → Pairwise Spells sent spellings → IsState ns contexts sent t → IsNamed contexts spellings event
    → ForStep (doing_of contexts spellings event) (λ step. Stepping ns (node_of_event event) old step state s)
    → Happens ns contexts sent t event (doing_of contexts spellings event) old state
happens ns contexts spellings sent t (events.Put n k v read) old state s spelled is named st =
    let context = numbered contexts read in
    let taken = write_by old.state state k v context s st.makes.input st.makes.is_input st.makes.step in
    let can = can_read t contexts n (writer old.state) k v read old.state.table named.0 is.reads named.1 taken in
    record {
      state_is = subst (λ cs. IsState (slice_set ns n (keeping (arrived state (Some k) old))) cs sent (tell_event (events.Put n k v read) t)) (sym (append-nil contexts))
          (state_written ns contexts sent t n k v (numbered t.looks read) context old state (writing ns n k v context old state s st) is can.fits can.vector);
      named = can.named;
      read = refl;
    }
happens ns contexts spellings sent t (events.Step n (OfNode.Write k v None)) old state s spelled is named st = record {
  state_is = subst (λ cs. IsState (slice_set ns n (keeping (arrived state (Some k) old))) cs sent (tell (Wrote n k v None) t)) (sym (append-nil contexts))
      (state_written ns contexts sent t n k v None None old state (writing ns n k v None old state s st) is tt refl);
  named = tt;
  read = refl;
}
happens ns contexts spellings sent t (events.Step n (OfNode.Write k v (Some context))) old state s spelled is named st = absurd named
happens ns contexts spellings sent t (events.Step n (OfNode.Read k)) old state s spelled is named st = record {
  state_is = state_same ns (contexts ++ present k old.state ∷ []) sent (tell_look n k t) n old state st.at st.leaves.held st.leaves.life
      (state_looked ns contexts sent t n k old st.low st.at st.number is);
  named = tt;
  read = next_is t contexts is.reads;
}
happens ns contexts spellings sent t (events.Step n (OfNode.PutOver k v)) old state s spelled is named st =
    let hs = t.history in
    let context = present k old.state in
    let f = stands ns contexts sent t n old (OfNode.PutOver k v) state s is st in
    let saw : seen_object (hs ++ Looked n k ∷ []) (length hs) k ≡ held_object hs n k = (after_look hs n k).seen.here in
    let w : Writing ns n k v (Some context) old state = record {
      low = st.low;
      at = st.at;
      number = st.number;
      restorable = st.restorable;
      is_table = st.is_table;
      held = st.leaves.held;
      life = st.leaves.life;
    } in
    record {
      state_is = state_written ns (contexts ++ context ∷ []) sent (tell_look n k t) n k v (Some (length hs)) (Some context) old state w
          (state_looked ns contexts sent t n k old st.low st.at st.number is)
          (n, slice_get_end hs (Looked n k)) (ap join (f.holds k ∙ sym saw));
      named = tt;
      read = next_is t contexts is.reads;
    }
happens ns contexts spellings sent t (events.Deliver number n word) old state s spelled is named st =
    let held = st.leaves.held in
    let bytes_is : unwrap_or (numbered spellings number) [] ≡ named.0 = ap (λ o. unwrap_or o []) named.1 in
    let told = told_as sent spellings t spelled is.sendings number named.0 held.frame named.1 (subst (Spells held.frame) bytes_is held.spelled) in
    let entry : sending_of t number ≡ told.sending = ap option_flatten told.there in
    record {
      state_is = subst (λ cs. IsState (slice_set ns n (keeping (arrived state None old))) cs sent (tell_got n (sending_of t number) t)) (sym (append-nil contexts))
          (subst (λ e. IsState (slice_set ns n (keeping (arrived state None old))) contexts sent (tell_got n e t)) (sym entry)
          (state_merged ns contexts sent t n old state held.frame told.sending st.low st.at is told.told (carried_object held.frame.message) refl held.merged st.leaves.life));
      named = (told.sending, told.there);
      read = refl;
    }
happens ns contexts spellings sent t (events.Step n (OfNode.Take bytes word)) old state s spelled is named st = absurd named
happens ns contexts spellings sent t (events.Step n (OfNode.Tick word)) old state s spelled is named st =
    record { state_is = quiet ns contexts sent t n old state st.at st.leaves.held st.leaves.life is; named = tt; read = refl }
happens ns contexts spellings sent t (events.Step n (OfNode.Join contact word)) old state s spelled is named st =
    record { state_is = quiet ns contexts sent t n old state st.at st.leaves.held st.leaves.life is; named = tt; read = refl }
happens ns contexts spellings sent t (events.Step n (OfNode.PeerDown peer word)) old state s spelled is named st =
    record { state_is = quiet ns contexts sent t n old state st.at st.leaves.held st.leaves.life is; named = tt; read = refl }
happens ns contexts spellings sent t (events.Step n (OfNode.Exchange peer)) old state s spelled is named st =
    record { state_is = quiet ns contexts sent t n old state st.at st.leaves.held st.leaves.life is; named = tt; read = refl }
happens ns contexts spellings sent t (events.Step n (OfNode.Keep k)) old state s spelled is named st = record {
  state_is = subst (λ cs. IsState (slice_set ns n (keeping (arrived state (Some k) old))) cs sent (tell (Kept n k) t)) (sym (append-nil contexts))
      (subst (λ node. IsState (slice_set ns n node) contexts sent (tell (Kept n k) t)) (sym (imaged_keeping old state k old.state.table st.leaves.held st.leaves.life))
      (state_keep ns contexts sent t n k (keeping old) is st.low st.at st.restorable));
  named = tt;
  read = refl;
}
happens ns contexts spellings sent t (events.Step n (OfNode.Watch prefix capacity)) old state s spelled is named st =
    record { state_is = quiet ns contexts sent t n old state st.at st.leaves.held st.leaves.life is; named = tt; read = refl }
happens ns contexts spellings sent t (events.Step n (OfNode.Changes number)) old state s spelled is named st =
    record { state_is = quiet ns contexts sent t n old state st.at st.leaves.held st.leaves.life is; named = tt; read = refl }
happens ns contexts spellings sent t (events.Step n (OfNode.Hello peer)) old state s spelled is named st =
    record { state_is = quiet ns contexts sent t n old state st.at st.leaves.held st.leaves.life is; named = tt; read = refl }
happens ns contexts spellings sent t (events.Step n OfNode.Leave) old state s spelled is named st =
    record { state_is = quiet ns contexts sent t n old state st.at st.leaves.held st.leaves.life is; named = tt; read = refl }
happens ns contexts spellings sent t (events.Restart n image) old state s spelled is named st = absurd st
