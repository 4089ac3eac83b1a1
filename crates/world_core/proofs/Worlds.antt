-- A world after one more event is a world.
use Rattle.std.proofs.Common.{◌≡◌, ◌≢◌, ℕ, zero, suc, ◌+◌, ◌<◌, ◌≤◌, Bool, true, false, eqb, List, [], ◌∷◌, ◌++◌, length, map, get_or, All, Option, Some, None, refl, sym, ap, subst, ◌∙◌, arith}
use Rattle.std.specs.Prelude.{slice_set}
use Rattle.std.specs.List.{range_with_len}
use Rattle.std.specs.Option.{option_map}
use Rattle.std.proofs.lemmas.Bool.{eqb-false, eqb-true}
use Rattle.std.proofs.lemmas.List.{append-nil, get_or-set_same, get_or-set_other, get_or_default, length-append, length-map, length-set, map-set}
use Rattle.std.proofs.lemmas.List.Elements.{All-nil, All-push, All-weaker}
use Rattle.std.proofs.lemmas.List.FromFn.{get_or-map-range_with_len, length-range_with_len}
use Rattle.std.proofs.lemmas.Option.{slice_get_within}
use Rattle.std.proofs.Math.ListN as list
use Rattle.meta_types.specs.Name.{IsKey, Key}
use Rattle.meta_types.specs.Value.{ValueParts}
use Rattle.dvvset.specs.Object.{Entry}
use Rattle.meta_frame.specs.Frame.{Spells}
use Rattle.meta_frame.specs.declared.message.Frame.{Frame}
use Rattle.meta_store.specs.Context.{Reading}
use Rattle.meta_store.specs.Table.{IsHeld, IsTable}
use Rattle.node_events.specs.Event.{stored_key}
use Rattle.node_events.specs.declared.event.NodeEvent.{NodeEvent}
use Rattle.node_events.specs.declared.reply.Reply.TheVariants as OfReply
use Rattle.node_events.specs.declared.reply.Reply.TheVariants.{Done}
use Rattle.node_core.specs.declared.state.Stepped.{Stepped}
use Rattle.node_core.specs.Leaving.{AreOfHeld, StepLeaves}
use Rattle.node_core.specs.Node.{NodeParts, opening}
use Rattle.node_core.specs.Step.{IsNodeStep}
use Rattle.past_model.specs.declared.happening.Happening.TheVariants.{Restarted}
use Rattle.past_model.specs.History.{most_restarts}
use Rattle.past_model.specs.Past.{past}
use Rattle.past_model.proofs.Matching.{same_lives, same_numbers}
use Rattle.restart_images.specs.Images.{Image}
use Rattle.restart_images.specs.Keeping.{IsRestorable, Keeping, change_at, most_incarnation}
use Rattle.restart_images.proofs.Keepings.{with_restart}
use Rattle.node_core.proofs.Growing.{only_reads}
use Rattle.restart_images.specs.Node.{BeginsFrom, ImagedNode, IsRestarted, arrived, context_read, images_with, keeping, new_node}
use Rattle.restart_images.specs.Follows.{FollowsHistory}
use Rattle.world_core.specs.declared.answer.Accepted.{Accepted}
use Rattle.world_core.specs.declared.answer.Answer.{Answer}
use Rattle.world_core.specs.declared.event.Event.{Event}
use Rattle.world_core.specs.declared.event.Event.TheVariants.{Put, Deliver, Restart}
use Rattle.world_core.specs.Events.{Begin, Doing, Step, node_of_event}
use Rattle.world_core.specs.Lives.{Live, deed_of, deeds_of}
use Rattle.world_core.specs.Knowledge.{HandsOut}
use Rattle.world_core.specs.Outcome.{list_of, next_frames, read_after}
use Rattle.world_core.specs.Refusal.{doing_in, node_at}
use Rattle.world_core.specs.Numbers.{numbered}
use Rattle.world_core.specs.Tells.{NamesEarlier, Pairwise, SendInOrder, next_read, nothing_told, tell, tell_event, tell_frames}
use Rattle.world_core.specs.World.{HasLived, World, new_world}
use Rattle.world_core.specs.Invariant.{IsFrameWithin, IsReadWithin, IsState, IsWithin, IsWorld}
use Rattle.world_core.proofs.Happens.{ForStep, Happens, IsNamed, Stepping, happens}
use Rattle.world_core.proofs.Lists.{numbered_at, numbered_more, pair_length, slice_get_end}
use Rattle.world_core.proofs.Living.{Within, deeds_append, deeds_more, live_begin, live_more, live_step, new_deed, other_deed, own_deed}
use Rattle.world_core.proofs.States.{spelled_frames, state_frames, state_new, state_restart}
use Rattle.world_core.proofs.Telling.{telling_more}

-- the world after an event of a node, which is then this one
abbrev pub after : World → Accepted → ℕ → ImagedNode → List (List ℕ) → List Reading → World
after w a n node bytes contexts = record {
  nodes = slice_set w.nodes n node;
  accepted = w.accepted ++ a ∷ [];
  frames = w.frames ++ bytes;
  contexts = w.contexts ++ contexts;
}

-- ---- nodes

-- one of the nodes, seen as what is told of it
at_keeping : (nodes : List ImagedNode) (n : ℕ) (d : ImagedNode) → keeping (get_or nodes n d) ≡ get_or (map keeping nodes) n (keeping d)
at_keeping nodes n d = sym (list.get_or-map keeping nodes n d)

set_keeping : (nodes : List ImagedNode) (n : ℕ) (node : ImagedNode) → map keeping (slice_set nodes n node) ≡ slice_set (map keeping nodes) n (keeping node)
set_keeping nodes n node = map-set keeping nodes n node

-- whichever is given for one that isn't there
at_new : (nodes : List ImagedNode) (n : ℕ) (d : Keeping) → n < length nodes → keeping (get_or nodes n (new_node n)) ≡ get_or (map keeping nodes) n d
at_new nodes n d low =
    at_keeping nodes n (new_node n)
    ∙ get_or_default (map keeping nodes) n (keeping (new_node n)) d (subst (λ l. n < l) (sym (length-map nodes keeping)) low)

-- ---- what an event names

within_numbered : {A : Type 0} (xs : List A) (number : ℕ) (x : A) → numbered xs number ≡ Some x → number ≤ length xs
within_numbered xs zero x e = cc
within_numbered xs (suc before) x e =
    let low : before < length xs = slice_get_within xs before x e in
    omega (arith, low)

read_within : (contexts : List Reading) (spellings : List (List ℕ)) (event : Event) → IsNamed contexts spellings event → IsReadWithin (length contexts) event
read_within contexts spellings (Put n k v read) named = within_numbered contexts read named.0 named.1
read_within contexts spellings event named = tt

frame_within : (contexts : List Reading) (spellings : List (List ℕ)) (event : Event) → IsNamed contexts spellings event → IsFrameWithin (length spellings) event
frame_within contexts spellings (Deliver frame n word) named = within_numbered spellings frame named.0 named.1
frame_within contexts spellings event named = tt

-- ---- all that was named, in a longer world

read_up : (m n : ℕ) (event : Event) → m ≤ n → IsReadWithin m event → IsReadWithin n event
read_up m n (Put i k v read) more w = omega (arith, more, w)
read_up m n event more w = tt

frame_up : (m n : ℕ) (event : Event) → m ≤ n → IsFrameWithin m event → IsFrameWithin n event
frame_up m n (Deliver frame i word) more w = omega (arith, more, w)
frame_up m n event more w = tt

up : {A : Type 0} (xs ys : List A) → length xs ≤ length (xs ++ ys)
up xs ys = let long : length (xs ++ ys) ≡ length xs + length ys = length-append xs ys in omega (arith, long)

within_more : (w : World) (a : Accepted) (n : ℕ) (node : ImagedNode) (bytes : List (List ℕ)) (contexts : List Reading) (event : Event)
    → IsWithin w event → IsWithin (after w a n node bytes contexts) event
within_more w a n node bytes contexts event is = record {
  node = subst (λ m. node_of_event event < m) (sym (length-set w.nodes n node)) is.node;
  read = read_up (length w.contexts) (length (w.contexts ++ contexts)) event (up w.contexts contexts) is.read;
  frame = frame_up (length w.frames) (length (w.frames ++ bytes)) event (up w.frames bytes) is.frame;
}

all_within : (w : World) (a : Accepted) (n : ℕ) (node : ImagedNode) (bytes : List (List ℕ)) (contexts : List Reading)
    → All (λ b. IsWithin w b.event) w.accepted → IsWithin w a.event
    → All (λ b. IsWithin (after w a n node bytes contexts) b.event) (w.accepted ++ a ∷ [])
all_within w a n node bytes contexts all is =
    All-push (λ b. IsWithin (after w a n node bytes contexts) b.event) w.accepted a
    (All-weaker (λ b. IsWithin w b.event) (λ b. IsWithin (after w a n node bytes contexts) b.event) (λ b. within_more w a n node bytes contexts b.event) w.accepted all)
    (within_more w a n node bytes contexts a.event is)

-- ---- contexts that were handed out

handed_more : (w : World) (a : Accepted) (n : ℕ) (node : ImagedNode) (bytes : List (List ℕ)) (contexts : List Reading) (answer : Answer)
    → HandsOut w answer → HandsOut (after w a n node bytes contexts) answer
handed_more w a n node bytes contexts answer handed = λ values context reply.
    let old = handed values context reply in
    (old.0, (old.1.0, numbered_more w.contexts contexts old.0 (within_numbered w.contexts old.0 context old.1.1) ∙ old.1.1))

all_handed : (w : World) (a : Accepted) (n : ℕ) (node : ImagedNode) (bytes : List (List ℕ)) (contexts : List Reading)
    → All (λ b. HandsOut w b.answer) w.accepted → HandsOut (after w a n node bytes contexts) a.answer
    → All (λ b. HandsOut (after w a n node bytes contexts) b.answer) (w.accepted ++ a ∷ [])
all_handed w a n node bytes contexts all is =
    All-push (λ b. HandsOut (after w a n node bytes contexts) b.answer) w.accepted a
    (All-weaker (λ b. HandsOut w b.answer) (λ b. HandsOut (after w a n node bytes contexts) b.answer) (λ b. handed_more w a n node bytes contexts b.answer) w.accepted all)
    is

-- the context that a step's reply hands out is the one that it reads with
reads_with : (s state : NodeParts) (step : NodeEvent) (given : Stepped) (values : List ValueParts) (context : Reading) → IsNodeStep s step state given
    → given.reply ≡ OfReply.Looked values context → context_read step s ≡ Some context
reads_with s state step given values context is reply =
    let read = only_reads s step state given values context is reply in
    ap (λ e. context_read e s) read.1.0 ∙ ap (λ c. Some c) (sym read.1.1)

-- ---- lives

-- what was done so far, in the longer lists
pub deeds_same : (w : World) (is : IsWorld w) (bytes : List (List ℕ)) (contexts : List Reading) (m : ℕ)
    → deeds_of (w.contexts ++ contexts) (w.frames ++ bytes) m w.accepted ≡ deeds_of w.contexts w.frames m w.accepted
deeds_same w is bytes contexts m =
    let many : length is.telling.frames ≡ length w.frames = pair_length Spells is.telling.frames w.frames is.telling.spelled in
    deeds_more w.contexts contexts w.frames bytes m 0 w.accepted (subst (SendInOrder 0 w.accepted) many is.telling.in_order)
    (All-weaker (λ b. IsWithin w b.event) (λ b. Within w.contexts w.frames b.event) (λ b within. record { read = within.read; frame = within.frame }) w.accepted is.within)

lived_other : (w : World) (is : IsWorld w) (a : Accepted) (n m : ℕ) (node : ImagedNode) (bytes : List (List ℕ)) (contexts : List Reading) (d : ImagedNode)
    → node_of_event a.event ≡ n → m ≢ n → m < length w.nodes → HasLived (after w a n node bytes contexts) m (get_or w.nodes m d)
lived_other w is a n m node bytes contexts d whose other low =
    let old = is.lived m d low in
    let not_its : node_of_event a.event ≢ m = λ e. other (sym e ∙ whose) in
    let deeds : deeds_of (w.contexts ++ contexts) (w.frames ++ bytes) m (w.accepted ++ a ∷ []) ≡ deeds_of w.contexts w.frames m w.accepted =
    deeds_append (w.contexts ++ contexts) (w.frames ++ bytes) m w.accepted (a ∷ [])
    ∙ (λ i. deeds_same w is bytes contexts m i ++ other_deed (w.contexts ++ contexts) (w.frames ++ bytes) m a not_its i)
    ∙ append-nil (deeds_of w.contexts w.frames m w.accepted) in
    record {
      number = old.number;
      held = old.held;
      lives = subst (λ ds. Live (get_or w.nodes m d).images (opening m 1 []) ds (get_or w.nodes m d).state) (sym deeds) old.lives;
    }

-- those of its node, by its deed
pub deeds_own : (w : World) (is : IsWorld w) (a : Accepted) (n : ℕ) (bytes : List (List ℕ)) (contexts : List Reading) (doing : Doing) (given : Stepped) → node_of_event a.event ≡ n
    → deed_of (w.contexts ++ contexts) (w.frames ++ bytes) a ≡ (doing, given)
    → deeds_of (w.contexts ++ contexts) (w.frames ++ bytes) n (w.accepted ++ a ∷ []) ≡ deeds_of w.contexts w.frames n w.accepted ++ (doing, given) ∷ []
deeds_own w is a n bytes contexts doing given whose deed =
    deeds_append (w.contexts ++ contexts) (w.frames ++ bytes) n w.accepted (a ∷ [])
    ∙ (λ i. deeds_same w is bytes contexts n i ++ (own_deed (w.contexts ++ contexts) (w.frames ++ bytes) n a whose ∙ ap (λ x. x ∷ []) deed) i)

-- images that a step may add
images_kept : (images : List Image) (standing : ℕ) (change : Option (Option (Key × List Entry))) (old : NodeParts) (deeds : List (Doing × Stepped)) (new : NodeParts)
    → Live images old deeds new → Live (images_with change standing images) old deeds new
images_kept images standing None old deeds new lives = lives
images_kept images standing (Some change) old deeds new lives = live_more images (record { base = standing; change = change }) old deeds new lives

lived_by : (w : World) (is : IsWorld w) (a : Accepted) (n : ℕ) (node : ImagedNode) (bytes : List (List ℕ)) (contexts : List Reading) → node_of_event a.event ≡ n → n < length w.nodes
    → HasLived (after w a n node bytes contexts) n node → (m : ℕ) (d : ImagedNode) (b : Bool) → eqb m n ≡ b → m < length w.nodes
    → HasLived (after w a n node bytes contexts) m (get_or (slice_set w.nodes n node) m d)
lived_by w is a n node bytes contexts whose low own m d true e within =
    let same : m ≡ n = eqb-true m n e in
    subst (λ i. HasLived (after w a n node bytes contexts) i (get_or (slice_set w.nodes n node) i d)) (sym same)
    (subst (HasLived (after w a n node bytes contexts) n) (sym (get_or-set_same w.nodes n node d low)) own)
lived_by w is a n node bytes contexts whose low own m d false e within =
    let other : m ≢ n = eqb-false m n e in
    subst (HasLived (after w a n node bytes contexts) m) (sym (get_or-set_other w.nodes n m node d other))
    (lived_other w is a n m node bytes contexts d whose other within)

-- ---- the world after an event of its node

-- what is to be shown of an event
record Goes (w : World) (is : IsWorld w) (a : Accepted) (n : ℕ) (node : ImagedNode) (bytes : List (List ℕ)) (contexts : List Reading) : Type 0 where
  whose : node_of_event a.event ≡ n
  low : n < length w.nodes
  within : IsWithin w a.event
  frames : List Frame
  spelled : Pairwise Spells frames bytes
  sent : a.answer.sent ≡ record { first = length w.frames + 1; count = length bytes }
  named : NamesEarlier is.told a.event
  read : a.answer.read ≡ next_read is.told a.event
  state_is : IsState (slice_set (map keeping w.nodes) n (keeping node)) (w.contexts ++ contexts) (is.telling.frames ++ frames) (tell_frames (node_of_event a.event) frames (tell_event a.event is.told))
  lived : HasLived (after w a n node bytes contexts) n node
  handed : HandsOut (after w a n node bytes contexts) a.answer

goes : (w : World) (is : IsWorld w) (a : Accepted) (n : ℕ) (node : ImagedNode) (bytes : List (List ℕ)) (contexts : List Reading) → Goes w is a n node bytes contexts
    → IsWorld (after w a n node bytes contexts)
unfolding telling_more
goes w is a n node bytes contexts g =
    let many : length is.telling.frames ≡ length w.frames = pair_length Spells is.telling.frames w.frames is.telling.spelled in
    let as_many : length g.frames ≡ length bytes = pair_length Spells g.frames bytes g.spelled in
    let sent : a.answer.sent ≡ record { first = length is.telling.frames + 1; count = length g.frames } =
    g.sent ∙ (λ i. record { first = sym many i + 1; count = sym as_many i }) in
    let long : length (slice_set w.nodes n node) ≡ length w.nodes = length-set w.nodes n node in
    record {
      told = tell_frames (node_of_event a.event) g.frames (tell_event a.event is.told);
      telling = telling_more w.accepted w.frames is.told is.telling a g.frames bytes g.spelled sent g.named g.read;
      state = subst (λ ns. IsState ns (w.contexts ++ contexts) (is.telling.frames ++ g.frames) (tell_frames (node_of_event a.event) g.frames (tell_event a.event is.told)))
          (sym (set_keeping w.nodes n node)) g.state_is;
      lived = λ m d within. lived_by w is a n node bytes contexts g.whose g.low g.lived m d (eqb m n) refl (subst (λ l. m < l) long within);
      within = all_within w a n node bytes contexts is.within g.within;
      handed = all_handed w a n node bytes contexts is.handed g.handed;
      some = subst (λ l. 1 ≤ l) (sym long) is.some;
      few = subst (λ l. l ≤ 16) (sym long) is.few;
    }

-- ---- a step

-- a step of the event's node, which is accepted with this answer
pub record Steps (w : World) (a : Accepted) (step : NodeEvent) (state : NodeParts) (s : Stepped) : Type 0 where
  pub low : node_of_event a.event < length w.nodes
  pub named : IsNamed w.contexts w.frames a.event
  pub doing : doing_in w a.event ≡ Step step
  pub restorable : IsRestorable (keeping (node_at w (node_of_event a.event)))
  pub is_table : IsTable state.table
  pub makes : IsNodeStep (node_at w (node_of_event a.event)).state step state s
  pub leaves : StepLeaves (node_at w (node_of_event a.event)).state step state s
  pub reply : a.answer.reply ≡ s.reply
  pub read : a.answer.read ≡ read_after w.contexts (context_read step (node_at w (node_of_event a.event)).state)
  pub sent : a.answer.sent ≡ next_frames w (length s.outbox)

-- the node after it
abbrev pub node_after : World → Event → NodeEvent → NodeParts → ImagedNode
node_after w event step state = arrived state (stored_key step) (node_at w (node_of_event event))

for_doing : (doing : Doing) (step : NodeEvent) (P : NodeEvent → Type 0) → doing ≡ Step step → P step → ForStep doing P
for_doing doing step P is p = subst (λ d. ForStep d P) (sym is) p

-- the node as the list of what is told has it
pub seen : (nodes : List ImagedNode) (n : ℕ) → n < length nodes → keeping (get_or nodes n (new_node n)) ≡ get_or (map keeping nodes) n (keeping (get_or nodes n (new_node n)))
seen nodes n low =
    let old = get_or nodes n (new_node n) in
    ap keeping (get_or_default nodes n (new_node n) old low) ∙ at_keeping nodes n old

-- the same number of them
pub kept_low : (nodes : List ImagedNode) (n : ℕ) → n < length nodes → n < length (map keeping nodes)
kept_low nodes n low = subst (λ l. n < l) (sym (length-map nodes keeping)) low

set_low : (ns : List Keeping) (n : ℕ) (k : Keeping) → n < length ns → n < length (slice_set ns n k)
set_low ns n k low = subst (λ l. n < l) (sym (length-set ns n k)) low

happens_step : (w : World) (is : IsWorld w) (a : Accepted) (step : NodeEvent) (state : NodeParts) (s : Stepped) → Steps w a step state s
    → Happens (map keeping w.nodes) w.contexts is.telling.frames is.told a.event (Step step) (node_at w (node_of_event a.event)) state
happens_step w is a step state s st =
    let n = node_of_event a.event in
    let old = node_at w n in
    let ns = map keeping w.nodes in
    let stepping : Stepping ns n old step state s = record {
      low = kept_low w.nodes n st.low;
      at = seen w.nodes n st.low;
      number = (is.lived n (new_node n) st.low).number;
      restorable = st.restorable;
      is_table = st.is_table;
      makes = st.makes;
      leaves = st.leaves;
    } in
    subst (λ doing. Happens ns w.contexts is.telling.frames is.told a.event doing old state) st.doing
    (happens ns w.contexts w.frames is.telling.frames is.told a.event old state s is.telling.spelled is.state st.named
    (for_doing (doing_in w a.event) step (λ step. Stepping ns n old step state s) st.doing stepping))

-- the context that it hands out has the number of the read
handed_step : (w : World) (a : Accepted) (step : NodeEvent) (state : NodeParts) (s : Stepped) → Steps w a step state s → (bytes : List (List ℕ)) (node : ImagedNode)
    → HandsOut (after w a (node_of_event a.event) node bytes (list_of (context_read step (node_at w (node_of_event a.event)).state))) a.answer
handed_step w a step state s st bytes node = λ values context reply.
    let old = (node_at w (node_of_event a.event)).state in
    let read : context_read step old ≡ Some context = reads_with old state step s values context st.makes (sym st.reply ∙ reply) in (
      length w.contexts + 1,
      (
        st.read ∙ ap (read_after w.contexts) read,
        ap (λ c. numbered (w.contexts ++ list_of c) (length w.contexts + 1)) read
            ∙ numbered_at (w.contexts ++ context ∷ []) (length w.contexts + 1) (length w.contexts) refl
            ∙ slice_get_end w.contexts context,
      ),
    )

lived_step : (w : World) (is : IsWorld w) (a : Accepted) (step : NodeEvent) (state : NodeParts) (s : Stepped) → Steps w a step state s → IsWithin w a.event
    → HasLived (after w a (node_of_event a.event) (node_after w a.event step state) s.outbox (list_of (context_read step (node_at w (node_of_event a.event)).state)))
    (node_of_event a.event) (node_after w a.event step state)
lived_step w is a step state s st within =
    let n = node_of_event a.event in
    let old = node_at w n in
    let node = node_after w a.event step state in
    let contexts = list_of (context_read step old.state) in
    let lived = is.lived n (new_node n) st.low in
    let deed : deed_of (w.contexts ++ contexts) (w.frames ++ s.outbox) a ≡ (Step step, s) =
    new_deed w.contexts contexts w.frames s.outbox a (Step step) s within.read within.frame st.doing st.reply refl st.sent in
    let lives = live_step node.images (opening n 1 []) (deeds_of w.contexts w.frames n w.accepted) old.state step s state
    (images_kept old.images old.standing (option_map (change_at state.table) (stored_key step)) (opening n 1 []) (deeds_of w.contexts w.frames n w.accepted) old.state lived.lives) st.makes in
    record {
      number = st.leaves.node ∙ lived.number;
      held = st.is_table;
      lives = subst (λ ds. Live node.images (opening n 1 []) ds state) (sym (deeds_own w is a n s.outbox contexts (Step step) s refl deed)) lives;
    }

pub world_step : (w : World) (is : IsWorld w) (a : Accepted) (step : NodeEvent) (state : NodeParts) (s : Stepped) → Steps w a step state s
    → IsWorld (after w a (node_of_event a.event) (node_after w a.event step state) s.outbox (list_of (context_read step (node_at w (node_of_event a.event)).state)))
world_step w is a step state s st =
    let n = node_of_event a.event in
    let old = node_at w n in
    let node = node_after w a.event step state in
    let ns = map keeping w.nodes in
    let low : n < length ns = kept_low w.nodes n st.low in
    let h = happens_step w is a step state s st in
    let within : IsWithin w a.event = record {
      node = st.low;
      read = read_within w.contexts w.frames a.event st.named;
      frame = frame_within w.contexts w.frames a.event st.named;
    } in
    let number : state.node ≡ n = st.leaves.node ∙ (is.lived n (new_node n) st.low).number in
    let are : AreOfHeld n state.table st.leaves.frames s.outbox =
    subst (λ m. AreOfHeld m state.table st.leaves.frames s.outbox) number st.leaves.sent in
    goes w is a n node s.outbox (list_of (context_read step old.state))
    (record {
      whose = refl;
      low = st.low;
      within = within;
      frames = st.leaves.frames;
      spelled = spelled_frames n state.table st.leaves.frames s.outbox are;
      sent = st.sent;
      named = h.named;
      read = st.read ∙ h.read;
      state_is = state_frames (slice_set ns n (keeping node)) (w.contexts ++ list_of (context_read step old.state)) is.telling.frames (tell_event a.event is.told) n (keeping node)
          st.leaves.frames s.outbox (set_low ns n (keeping node) low) (sym (get_or-set_same ns n (keeping node) (keeping node) low)) are h.state_is;
      lived = lived_step w is a step state s st within;
      handed = handed_step w a step state s st s.outbox node;
    })

-- ---- a restart

pub record Restarts (w : World) (n image : ℕ) (answer : Answer) (node : ImagedNode) : Type 0 where
  pub low : n < length w.nodes
  pub left : (node_at w n).state.incarnation < most_incarnation
  pub restarts : IsRestarted (node_at w n) image node
  pub reply : answer.reply ≡ Done
  pub read : answer.read ≡ None
  pub sent : answer.sent ≡ next_frames w 0

restarted_keeping : (old : ImagedNode) (image : ℕ) (node : ImagedNode) (r : IsRestarted old image node)
    → keeping node ≡ with_restart r.begins.table image (keeping old)
restarted_keeping old image node r = λ i. record {
  table = (ap (λ (s : NodeParts). s.table) r.begins.begins) i;
  images = r.images i;
  standing = r.standing i;
  incarnation = (ap (λ (s : NodeParts). s.incarnation) r.begins.begins) i;
}

fits_restart : (w : World) (is : IsWorld w) (n image : ℕ) → n < length w.nodes → image ≤ length (node_at w n).images → (node_at w n).state.incarnation < most_incarnation
    → (image ≤ (past is.told.history).last n) × ((past is.told.history).restarts n < most_restarts)
fits_restart w is n image low there left =
    let old = node_at w n in
    let hs = is.told.history in
    let f : FollowsHistory hs n (keeping old) = subst (FollowsHistory hs n) (sym (seen w.nodes n low)) (is.state.nodes n (keeping old) (kept_low w.nodes n low)) in
    let last : length old.images ≡ (past hs).last n = f.number ∙ same_numbers hs n in
    let life : old.state.incarnation ≡ (past hs).restarts n + 1 = f.life ∙ same_lives hs n in
    (omega (arith, there, last), omega (arith, left, life))

pub world_restart : (w : World) (is : IsWorld w) (n image : ℕ) (answer : Answer) (node : ImagedNode) → Restarts w n image answer node
    → IsWorld (after w (record { event = Restart n image; answer = answer }) n node [] [])
world_restart w is n image answer node r =
    let a : Accepted = record { event = Restart n image; answer = answer } in
    let old = node_at w n in
    let ns = map keeping w.nodes in
    let low : n < length ns = kept_low w.nodes n r.low in
    let b = r.restarts.begins in
    let given : Stepped = record { reply = answer.reply; outbox = [] } in
    let lived = is.lived n (new_node n) r.low in
    let deed : deed_of (w.contexts ++ []) (w.frames ++ []) a ≡ (Begin image, given) =
    new_deed w.contexts [] w.frames [] a (Begin image) given tt tt refl refl refl r.sent in
    let begins : BeginsFrom node.images image old.state node.state = subst (λ is. BeginsFrom is image old.state node.state) (sym r.restarts.images) b in
    let lives = live_begin node.images (opening n 1 []) (deeds_of w.contexts w.frames n w.accepted) old.state image given node.state
    (subst (λ is. Live is (opening n 1 []) (deeds_of w.contexts w.frames n w.accepted) old.state) (sym r.restarts.images) lived.lives) begins (ap (λ reply. record { reply = reply; outbox = [] }) r.reply) in
    let state = state_restart ns w.contexts is.telling.frames is.told n image b.table (keeping old) is.state low (seen w.nodes n r.low) b.there b.restored
    (fits_restart w is n image r.low b.there r.left) in
    goes w is a n node [] []
    (record {
      whose = refl;
      low = r.low;
      within = record { node = r.low; read = tt; frame = tt };
      frames = [];
      spelled = tt;
      sent = r.sent;
      named = tt;
      read = r.read;
      state_is = subst (λ fs. IsState (slice_set ns n (keeping node)) (w.contexts ++ []) fs (tell (Restarted n image) is.told)) (sym (append-nil is.telling.frames))
          (subst (λ cs. IsState (slice_set ns n (keeping node)) cs is.telling.frames (tell (Restarted n image) is.told)) (sym (append-nil w.contexts))
          (subst (λ k. IsState (slice_set ns n k) w.contexts is.telling.frames (tell (Restarted n image) is.told)) (sym (restarted_keeping old image node r.restarts)) state));
      lived = record {
        number = ap (λ (s : NodeParts). s.node) b.begins ∙ lived.number;
        held = subst IsTable (sym (ap (λ (s : NodeParts). s.table) b.begins)) b.is_table;
        lives = subst (λ ds. Live node.images (opening n 1 []) ds node.state) (sym (deeds_own w is a n [] [] (Begin image) given refl deed)) lives;
      };
      handed = λ values context reply. absurd (let done : Done ≡ OfReply.Looked values context = sym r.reply ∙ reply in cc);
    })

-- ---- the first world

no_node : (count n : ℕ) (d : ImagedNode) → n < length (map new_node (range_with_len 0 count)) → get_or (map new_node (range_with_len 0 count)) n d ≡ new_node n
no_node count n d low =
    let long : length (map new_node (range_with_len 0 count)) ≡ count = length-map (range_with_len 0 count) new_node ∙ length-range_with_len 0 count in
    get_or-map-range_with_len new_node 0 count n n d (omega (arith, low, long)) (omega arith)

new_lived : (w : World) (n : ℕ) → w.accepted ≡ [] → HasLived w n (new_node n)
new_lived w n none = record {
  number = refl;
  held = record { rising = refl; keys = All-nil (λ row. IsKey row.0); few = omega arith; held = All-nil (λ row. IsHeld row.1) };
  lives = subst (λ later. Live [] (opening n 1 []) (deeds_of w.contexts w.frames n later) (opening n 1 [])) (sym none) refl;
}

pub world_new : (count : ℕ) → 1 ≤ count → count ≤ 16 → IsWorld (new_world count)
world_new count some few =
    let nodes = map new_node (range_with_len 0 count) in
    let long : length nodes ≡ count = length-map (range_with_len 0 count) new_node ∙ length-range_with_len 0 count in
    record {
      told = nothing_told;
      telling = record { frames = []; spelled = tt; in_order = refl; names = tt; tells = refl };
      state = state_new (map keeping nodes)
          (λ n d low. let low_here : n < length nodes = subst (λ l. n < l) (length-map nodes keeping) low in
          sym (at_new nodes n d low_here) ∙ ap keeping (no_node count n (new_node n) low_here));
      lived = λ n d low. subst (HasLived (new_world count) n) (sym (no_node count n d low)) (new_lived (new_world count) n refl);
      within = All-nil (λ a. IsWithin (new_world count) a.event);
      handed = All-nil (λ a. HandsOut (new_world count) a.answer);
      some = subst (λ l. 1 ≤ l) (sym long) some;
      few = subst (λ l. l ≤ 16) (sym long) few;
    }
