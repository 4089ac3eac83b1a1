-- Each row of the table keeps a node lawful, and each message that it sends has a spelling.
use Rattle.std.proofs.Common.{◌≡◌, ◌≢◌, ℕ, ◌<◌, ◌^◌, Bool, true, false, cond, if◌then◌else◌, List, [], map, length, nat_eq, nat_lt, slice_index, All, Option, Some, None, IfSome, refl, sym, subst, ◌∙◌, arith}
use Rattle.std.specs.FinMap.{find}
use Rattle.std.specs.Int.{w16}
use Rattle.std.specs.Option.{option_map, unwrap_or}
use Rattle.std.proofs.lemmas.Bool.{cond_both, eqb-false, eqb-true, not-true}
use Rattle.std.proofs.lemmas.List.Elements.{All-append, All-nil, All-push}
use Rattle.meta_types.specs.Name.{IsKey, Key}
use Rattle.meta_types.specs.Node.{IsNode}
use Rattle.meta_types.specs.Order.{key_cmp}
use Rattle.meta_types.specs.Value.{IsValue, ValueParts}
use Rattle.dvvset.specs.Object.{Counter, Entry, IsEntry, IsObject, IsVector}
use Rattle.dvvset.specs.Clock.{join}
use Rattle.dvvset.proofs.Objects.{IsVector-join}
use Rattle.frame_fields.specs.Field.{key}
use Rattle.frame_fields.proofs.Spellable.{key_fits, number_within, spelled_object}
use Rattle.meta_frame.specs.Frame.{IsLawful, IsMessage}
use Rattle.meta_frame.specs.declared.message.Frame.{Frame}
use Rattle.meta_frame.specs.declared.message.Message.{Message}
use Rattle.meta_frame.specs.declared.message.Message.TheVariants.{Gossip, IHave, Graft, Prune, XRoot, XPrefixes, XInner, XLeaves, XBucket, XObject, XWant, Hello}
use Rattle.meta_store.specs.Context.{Reading, vector_read}
use Rattle.meta_store.specs.Step.{merge_of, object_after_put, refusal_of_merge, refusal_of_put}
use Rattle.meta_store.specs.Table.{IsHeld, Table, is_stale, object_at, with_object}
use Rattle.meta_store.proofs.Tables.{found_row, object_at-here, table_put}
use Rattle.hash_tree.specs.Tree.{rows_of, tree_root}
use Rattle.exchange.specs.Answers.{answers_to}
use Rattle.peer_lists.specs.Lists.{has}
use Rattle.hyparview.specs.declared.event.ViewEvent.{ViewEvent}
use Rattle.hyparview.specs.declared.event.ViewEvent.TheVariants as OfViews
use Rattle.hyparview.specs.Lawful.{IsOfAnother}
use Rattle.hyparview.specs.Views.{draft_after}
use Rattle.plumtree.specs.Broadcast as calls
use Rattle.plumtree.specs.Broadcast.{CastCall, draft_of, row}
use Rattle.plumtree.specs.Lawful.{MayCome, NamesOthers}
use Rattle.plumtree.proofs.Sending.{sends_to_others}
use Rattle.subscriptions.specs.declared.change.Change.{Change}
use Rattle.subscriptions.specs.Watching.{Watching}
use Rattle.node_events.specs.declared.event.NodeEvent.{NodeEvent}
use Rattle.node_events.specs.declared.event.NodeEvent.TheVariants.{Write, PutOver, Tick, Join as JoinThrough, PeerDown, Exchange, Watch, Changes, Hello as SayHello, Leave}
use Rattle.node_events.specs.declared.fault.StepFault.TheVariants.{BadNode, NotAddressed}
use Rattle.node_events.specs.Fault.{of_store}
use Rattle.node_overlay.specs.Ticking.{is_due}
use Rattle.node_overlay.specs.Outbox.{MaySend}
use Rattle.node_overlay.specs.Overlay.{IsOfNoPeer, envelope, out_of, sent_by_view}
use Rattle.node_overlay.proofs.Naming.{names_others_on, view_may}
use Rattle.node_overlay.proofs.Sendable.{life_fits}
use Rattle.node_core.specs.Node.{NodeParts, present, vector_under, writer}
use Rattle.node_core.specs.Draft.{NodeDraft, call_broadcast, change, change_under, envelope_of, hold, note, send_all, send_one, step_views}
use Rattle.node_core.specs.Rows.{Input, Local, Received, count_tick, drop_neighbour, hear, is_fresh, merge, row_of_event, row_of_gossip, row_of_graft, row_of_hello, row_of_input, row_of_message, tick, write}
use Rattle.node_core.specs.Step.{begun, refusal_of, refusal_of_event, refusal_of_message, refusal_of_object, refusal_of_peer}
use Rattle.node_core.proofs.Answering.{answers_may}
use Rattle.node_core.proofs.Casting.{held_if_stale}
use Rattle.node_core.proofs.Spreading.{joined_spells}
use Rattle.node_core.proofs.Viewing.{views_of_node}
use Rattle.node_outcomes.specs.Lawful.{IsLawfulEvent, IsLawfulNode}
use Rattle.node_outcomes.proofs.Answers.{answers_fit, prefix_in_range}
use Rattle.node_outcomes.proofs.Peers.{IsOfNodes, NamesNodes-call, names_called}
use Rattle.node_outcomes.proofs.Sending.{IsHeldUnder, IsSpelled, addressed, messages_spelled, outs_spelled, peers_named}
use Rattle.node_outcomes.proofs.Tables.{Holds, held_lawful, merge_holds, none_first, put_holds, writer_of_life}
use Rattle.node_outcomes.proofs.Told.{tree_root_len}
use Rattle.node_outcomes.proofs.Views.{IsSpelledEvent, names_after}

-- ---- what isn't part of it

-- the watches, the lives heard and the counts
pub IsLawfulNode-same : (watches : List Watching) (heard : List ℕ) (steps frames ticks : ℕ) (s : NodeParts) → IsLawfulNode s
    → IsLawfulNode (record s { watches = watches; heard = heard; steps = steps; frames = frames; ticks = ticks })
IsLawfulNode-same watches heard steps frames ticks s h = record {
  node = h.node;
  life = h.life;
  in_life = record { own_views = h.in_life.own_views; lives = h.in_life.lives };
  table = h.table;
  overlay = h.overlay;
  active = h.active;
  passive = h.passive;
  cast = h.cast;
}

-- ---- small facts

none_mapped : {F G : Type 0} (f : F → G) (refusal : Option F) → option_map f refusal ≡ None → refusal ≡ None
none_mapped f None e = refl
none_mapped f (Some fault) e = absurd (cc)

key_in_range : (k : Key) → key.Fits k → IsKey k
key_in_range k fits =
    let own = number_within w16 1 256 (length k.key) fits.1.0 in
    (prefix_in_range k.prefix fits.0, (own.least, own.most))

-- ---- a node in the midst of a step

pub record Keeps (own : ℕ) (t : NodeDraft) : Type 0 where
  pub node : t.parts.node ≡ own
  pub lawful : IsLawfulNode t.parts
  pub sent : All (IsSpelled own) t.sent

module _ (n : ℕ) where
  own_views : (t : NodeDraft) → Keeps n t → t.parts.overlay.views.node ≡ n
  own_views t h = h.lawful.in_life.own_views ∙ h.node

  Keeps-same : (watches : List Watching) (heard : List ℕ) (ticks : ℕ) (t : NodeDraft) → Keeps n t
      → Keeps n (record t { parts = record t.parts { watches = watches; heard = heard; ticks = ticks } })
  Keeps-same watches heard ticks t h = record {
    node = h.node;
    lawful = IsLawfulNode-same watches heard t.parts.steps t.parts.frames ticks t.parts h.lawful;
    sent = h.sent;
  }

  Keeps-send_one : (to : ℕ) (m : Message) (t : NodeDraft) → IsSpelled n (envelope to m) → Keeps n t → Keeps n (send_one to m t)
  Keeps-send_one to m t is h =
      record { node = h.node; lawful = h.lawful; sent = All-push (IsSpelled n) t.sent (envelope to m) h.sent is }

  Keeps-call : (call : CastCall) (t : NodeDraft) → IsOfNoPeer call → MayCome n call → IsOfNodes (IsHeldUnder t.parts.table) call
      → Keeps n t → Keeps n (call_broadcast call t)
  Keeps-call call t of_none may of h =
      let o = t.parts.overlay in
      let own = own_views t h in
      let may_there : MayCome o.views.node call = subst (λ x. MayCome x call) (sym own) may in
      let others : NamesOthers n o.cast = subst (λ x. NamesOthers x o.cast) own h.lawful.overlay.names_others in
      let called = names_called (IsHeldUnder t.parts.table) o.cast call h.lawful.cast of in
      record {
        node = h.node;
        lawful = record {
          node = h.lawful.node;
          life = h.lawful.life;
          in_life = record { own_views = h.lawful.in_life.own_views; lives = h.lawful.in_life.lives };
          table = h.lawful.table;
          overlay = names_others_on.calls o call of_none may_there h.lawful.overlay;
          active = h.lawful.active;
          passive = h.lawful.passive;
          cast = NamesNodes-call (IsHeldUnder t.parts.table) o.cast call h.lawful.cast of;
        };
        sent =
            All-append (IsSpelled n) t.sent (map (envelope_of t.parts.table) (out_of call o)) h.sent
            (outs_spelled n t.parts.table (out_of call o) (sends_to_others.goes_on n o.cast call others may).out called.out);
      }

  Keeps-views : (event : ViewEvent) (word : ℕ) (t : NodeDraft) → IsOfAnother n event → IsSpelledEvent event → Keeps n t
      → Keeps n (step_views event word t)
  Keeps-views event word t another fits h =
      let o = t.parts.overlay in
      let own = own_views t h in
      let another_there : IsOfAnother o.views.node event = subst (λ x. IsOfAnother x event) (sym own) another in
      let named =
      names_after event word o.views fits
      (subst IsNode (sym h.lawful.in_life.own_views) h.lawful.node) h.lawful.active h.lawful.passive in
      let may =
      subst (λ x. All (MaySend x) (sent_by_view event word o)) own (view_may o event word another_there h.lawful.overlay) in
      record {
        node = h.node;
        lawful = record {
          node = h.lawful.node;
          life = h.lawful.life;
          in_life =
              record {
                own_views = views_of_node event word o h.lawful.overlay ∙ h.lawful.in_life.own_views;
                lives = h.lawful.in_life.lives;
              };
          table = h.lawful.table;
          overlay = names_others_on.views o event word another_there h.lawful.overlay;
          active = named.active;
          passive = named.passive;
          cast = peers_named (draft_after event word o.views).out o.cast named.out h.lawful.cast;
        };
        sent =
            All-append (IsSpelled n) t.sent (sent_by_view event word o) h.sent
            (messages_spelled n (draft_after event word o.views).out may named.out);
      }

  -- ---- a change

  Keeps-hold : (k : Key) (object : List Entry) (t : NodeDraft) → IsKey k → Holds t.parts.table k object → Keeps n t
      → Keeps n (hold k object t)
  Keeps-hold k object t is holds h = record {
    node = h.node;
    lawful = record {
      node = h.lawful.node;
      life = h.lawful.life;
      in_life = record { own_views = h.lawful.in_life.own_views; lives = h.lawful.in_life.lives };
      table = table_put k object t.parts.table h.lawful.table is holds.held holds.room;
      overlay = h.lawful.overlay;
      active = h.lawful.active;
      passive = h.lawful.passive;
      cast = h.lawful.cast;
    };
    sent = h.sent;
  }

  Keeps-note : (c : Change) (t : NodeDraft) → Keeps n t → Keeps n (note c t)
  Keeps-note c t h = Keeps-same (note c t).parts.watches t.parts.heard t.parts.ticks t h

  Keeps-change : (k : Key) (object : List Entry) (t : NodeDraft) → IsKey k → Holds t.parts.table k object → Keeps n t
      → Keeps n (change k object t)
  Keeps-change k object t is holds h =
      let new = hold k object t in
      let noted = note (change_under k new.parts) new in
      Keeps-call (calls.Changes k (vector_under k new.parts)) noted tt tt tt
      (Keeps-note (change_under k new.parts) new (Keeps-hold k object t is holds h))

  -- what is held under the key now
  held_there : (k : Key) (object : List Entry) (table : Table) → IsKey k → IsHeld object
      → IsHeldUnder (with_object k object table) k
  held_there k object table is held = (key_fits k is, subst IsHeld (sym (object_at-here k object table)) held)

  announced : (k : Key) (table : Table) (round : ℕ) → IsHeldUnder table k → round < 2 ^ 16
      → IsMessage (IHave round k (join (object_at table k)))
  announced k table round held low = (low, (held.0, joined_spells (object_at table k) held.1))

module _ (s : NodeParts) (h : IsLawfulNode s) where
  pub Keeps-begun : Keeps s.node (begun s)
  Keeps-begun = record { node = refl; lawful = h; sent = All-nil (IsSpelled s.node) }

  -- ---- a write

  Keeps-write : (k : Key) (value : ValueParts) (context : Option Reading) → IsKey k → IsValue value → IsVector (vector_read context)
      → refusal_of_put s.table (writer s) k value context ≡ None → Keeps s.node (write k value context (begun s))
  Keeps-write k value context is lawful read accepted =
      let object = object_after_put s.table (writer s) k value context in
      let holds =
      put_holds s.table h.table k (writer s) value context
      (writer_of_life s.node s.incarnation h.node h.life) lawful read accepted in
      let changed = change k object (begun s) in
      let held = held_there s.node k object s.table is holds.held in
      Keeps-call s.node (calls.Broadcasts k (vector_under k changed.parts)) changed tt
      (announced s.node k (with_object k object s.table) 0 held (omega arith)) held
      (Keeps-change s.node k object (begun s) is holds Keeps-begun)

  -- ---- an object that came

  merge_at : (k : Key) (came : List Entry) → IsKey k → IsObject came → refusal_of_object k came s ≡ None → is_fresh k came s ≡ true
      → Holds s.table k (merge_of s.table k came)
  merge_at k came is lawful accepted fresh =
      merge_holds s.table h.table k came lawful (not-true (is_stale s.table k (join came)) fresh)
      (none_mapped of_store (refusal_of_merge s.table k came) accepted)

  Keeps-merge : (k : Key) (came : List Entry) → IsKey k → IsObject came → refusal_of_object k came s ≡ None
      → Keeps s.node (merge k came (begun s))
  Keeps-merge k came is lawful accepted =
      let merged = merge_of s.table k came in
      cond_both (is_fresh k came s) (change k merged (begun s)) (begun s) (Keeps s.node)
      (λ fresh. Keeps-change s.node k merged (begun s) is (merge_at k came is lawful accepted fresh) Keeps-begun) (λ _. Keeps-begun)

  gossip_where : (from round : ℕ) (k : Key) (came : List Entry) (fresh : Bool) → from ≢ s.node → IsNode from → round < 2 ^ 16
      → IsKey k
      → (fresh ≡ true → Holds s.table k (merge_of s.table k came))
      → (let merged : NodeDraft = if fresh then change k (merge_of s.table k came) (begun s) else begun s in
      Keeps s.node (call_broadcast (calls.gossip_call from round k (vector_under k merged.parts) fresh) merged))
  gossip_where from round k came true another is low key_is holds =
      let merged = merge_of s.table k came in
      let new = holds refl in
      let held = held_there s.node k merged s.table key_is new.held in
      let changed = change k merged (begun s) in
      Keeps-call s.node (calls.TakesFresh from round k (vector_under k changed.parts)) changed tt
      (another, announced s.node k (with_object k merged s.table) round held low) (is, held)
      (Keeps-change s.node k merged (begun s) key_is new Keeps-begun)
  gossip_where from round k came false another is low key_is holds =
      Keeps-call s.node (calls.TakesStale from) (begun s) tt another is Keeps-begun

  Keeps-row_of_gossip : (from round : ℕ) (k : Key) (came : List Entry) → from ≢ s.node → IsNode from → round < 2 ^ 16 → IsKey k
      → IsObject came
      → refusal_of_object k came s ≡ None → Keeps s.node (row_of_gossip from round k came (begun s))
  Keeps-row_of_gossip from round k came another is low key_is lawful accepted =
      gossip_where from round k came (is_fresh k came s) another is low key_is (merge_at k came key_is lawful accepted)

  -- ---- the messages

  held_object : (k : Key) (found : Option (List Entry)) → find key_cmp k s.table ≡ found → (found ≡ None → ⊥)
      → IsHeld (unwrap_or found [])
  held_object k None e some = absurd (some refl)
  held_object k (Some object) e some = (found_row k s.table object h.table.held h.table.keys e).held

  Keeps-row_of_graft : (from round : ℕ) (k : Key) (vector : List Counter) → from ≢ s.node → IsNode from
      → IsMessage (Graft round k vector)
      → Keeps s.node (row_of_graft from round k vector (begun s))
  Keeps-row_of_graft from round k vector another is fits =
      Keeps-call s.node (calls.TakesGraft from round k (is_stale s.table k vector)) (begun s) tt another (
        is,
        fits.0,
        λ stale. (
          fits.1.0,
          held_object k (find key_cmp k s.table) refl
              (λ absent. held_if_stale s.table k vector fits.1.1 stale absent),
        ),
      )
      Keeps-begun

  Keeps-row_of_hello : (from life word : ℕ) → from ≢ s.node → Keeps s.node (row_of_hello from life word (begun s))
  Keeps-row_of_hello from life word another =
      let heard = hear from life (begun s) in
      let known : Keeps s.node heard = Keeps-same s.node s.watches heard.parts.heard s.ticks (begun s) Keeps-begun in
      cond_both (nat_lt (slice_index s.heard from) life) (drop_neighbour from word heard) (begun s) (Keeps s.node)
      (λ _. cond_both (has s.overlay.views.active from) (step_views (OfViews.PeerDown from) word heard) heard (Keeps s.node)
      (λ _. Keeps-views s.node (OfViews.PeerDown from) word heard another tt known) (λ _. known))
      (λ _. Keeps-begun)

  Keeps-reply : (from : ℕ) (m : Message) → from ≢ s.node → IsNode from → IsMessage m
      → Keeps s.node (send_all from (answers_to s.table m) (begun s))
  Keeps-reply from m another is fits = record {
    node = refl;
    lawful = h;
    sent =
        addressed s.node from (answers_to s.table m) is (answers_may s.table h.table s.node from another m)
        (answers_fit s.table h.table m fits);
  }

  Keeps-row_of_message : (from word : ℕ) (m : Message) → from ≢ s.node → IsNode from → IsMessage m → refusal_of_message m s ≡ None
      → Keeps s.node (row_of_message from word m (begun s))
  Keeps-row_of_message from word (Gossip round k came) another is fits accepted =
      Keeps-row_of_gossip from round k came another is fits.0 (key_in_range k fits.1.0)
      (spelled_object came fits.1.1).object accepted
  Keeps-row_of_message from word (IHave round k vector) another is fits accepted =
      Keeps-call s.node (calls.TakesIHave from round k vector (is_stale s.table k vector)) (begun s) tt
      (another, fits) is Keeps-begun
  Keeps-row_of_message from word (Graft round k vector) another is fits accepted =
      Keeps-row_of_graft from round k vector another is fits
  Keeps-row_of_message from word Prune another is fits accepted =
      Keeps-call s.node (calls.TakesPrune from) (begun s) tt tt is Keeps-begun
  Keeps-row_of_message from word (XRoot root) another is fits accepted = Keeps-reply from (XRoot root) another is fits
  Keeps-row_of_message from word (XPrefixes theirs) another is fits accepted = Keeps-reply from (XPrefixes theirs) another is fits
  Keeps-row_of_message from word (XInner p theirs) another is fits accepted = Keeps-reply from (XInner p theirs) another is fits
  Keeps-row_of_message from word (XLeaves p inner theirs) another is fits accepted =
      Keeps-reply from (XLeaves p inner theirs) another is fits
  Keeps-row_of_message from word (XBucket p leaf theirs) another is fits accepted =
      Keeps-reply from (XBucket p leaf theirs) another is fits
  Keeps-row_of_message from word (XWant k) another is fits accepted = Keeps-reply from (XWant k) another is fits
  Keeps-row_of_message from word (XObject k came) another is fits accepted =
      Keeps-merge k came (key_in_range k fits.0) (spelled_object came fits.1).object accepted
  Keeps-row_of_message from word (Hello life) another is fits accepted = Keeps-row_of_hello from life word another
  Keeps-row_of_message from word m another is fits accepted =
      Keeps-views s.node (OfViews.Taken from m) word (begun s) another (is, fits) Keeps-begun

  -- ---- a tick

  Keeps-tick : (word : ℕ) → Keeps s.node (tick word (begun s))
  Keeps-tick word =
      let counted = count_tick (begun s) in
      let cast = call_broadcast calls.Tick counted in
      let after =
      Keeps-call s.node calls.Tick counted tt tt tt
      (Keeps-same s.node s.watches s.heard counted.parts.ticks (begun s) Keeps-begun) in
      cond_both (is_due cast.parts.ticks) (step_views OfViews.ShuffleDue word cast) cast (Keeps s.node)
      (λ _. Keeps-views s.node OfViews.ShuffleDue word cast tt tt after) (λ _. after)

  -- ---- the table

  other_peer : (peer : ℕ) → refusal_of_peer peer s ≡ None → peer ≢ s.node
  other_peer peer accepted = eqb-false peer s.node (none_first (nat_eq peer s.node) BadNode None accepted).0

  read_lawful : (context : Option Reading) → IfSome context (λ read. IsVector read.vector) → IsVector (vector_read context)
  read_lawful None is = IsVector-join [] (record { rising = tt; entries = All-nil IsEntry })
  read_lawful (Some read) is = is

  Keeps-row_of_event : (event : NodeEvent) → IsLawfulEvent event → refusal_of_event event s ≡ None
      → Keeps s.node (row_of_event event (begun s))
  Keeps-row_of_event (Write k value context) is accepted =
      Keeps-write k value context is.0 is.1 (read_lawful context is.2)
      (none_mapped of_store (refusal_of_put s.table (writer s) k value context) accepted)
  Keeps-row_of_event (PutOver k value) is accepted =
      Keeps-write k value (Some (present k s)) is.0 is.1 (IsVector-join (object_at s.table k) (held_lawful s.table k h.table))
      (none_mapped of_store (refusal_of_put s.table (writer s) k value (Some (present k s))) accepted)
  Keeps-row_of_event (Tick word) is accepted = Keeps-tick word
  Keeps-row_of_event (JoinThrough contact word) is accepted =
      Keeps-views s.node (OfViews.JoinThrough contact) word (begun s) (other_peer contact accepted) is Keeps-begun
  Keeps-row_of_event (PeerDown peer word) is accepted =
      Keeps-views s.node (OfViews.PeerDown peer) word (begun s) (other_peer peer accepted) tt Keeps-begun
  Keeps-row_of_event (Exchange peer) is accepted =
      let root = tree_root (rows_of s.table) in
      Keeps-send_one s.node peer (XRoot root) (begun s)
      (record {
        to = is;
        may = record { apart = other_peer peer accepted; sendable = tt };
        message = tree_root_len (rows_of s.table);
      }) Keeps-begun
  Keeps-row_of_event (Watch prefix capacity) is accepted =
      Keeps-same s.node (row_of_event (Watch prefix capacity) (begun s)).parts.watches s.heard s.ticks (begun s) Keeps-begun
  Keeps-row_of_event (Changes number) is accepted =
      Keeps-same s.node (row_of_event (Changes number) (begun s)).parts.watches s.heard s.ticks (begun s) Keeps-begun
  Keeps-row_of_event (SayHello peer) is accepted =
      Keeps-send_one s.node peer (Hello s.incarnation) (begun s)
      (record {
        to = is;
        may = record { apart = other_peer peer accepted; sendable = h.in_life.lives };
        message = life_fits s.incarnation h.in_life.lives h.life;
      }) Keeps-begun
  Keeps-row_of_event Leave is accepted = Keeps-views s.node OfViews.Leave 0 (begun s) tt tt Keeps-begun
  Keeps-row_of_event event is accepted = Keeps-begun

  -- a lawful event, or a lawful frame
  abbrev pub IsLawfulInput : Input → Type 0
  IsLawfulInput (Local event) = IsLawfulEvent event
  IsLawfulInput (Received frame word) = IsLawful frame

  taken_where : (frame : Frame) (word : ℕ) (own : Bool) → nat_eq frame.to s.node ≡ own → IsLawful frame
      → cond own (refusal_of_message frame.message s) (Some NotAddressed) ≡ None
      → Keeps s.node (row_of_message frame.from word frame.message (begun s))
  taken_where frame word true here is accepted =
      Keeps-row_of_message frame.from word frame.message
      (λ same. is.apart (same ∙ sym (eqb-true frame.to s.node here))) is.from is.message accepted
  taken_where frame word false here is accepted = absurd (cc)

  pub Keeps-row_of_input : (input : Input) → IsLawfulInput input → refusal_of input s ≡ None
      → Keeps s.node (row_of_input input (begun s))
  Keeps-row_of_input (Local event) is accepted = Keeps-row_of_event event is accepted
  Keeps-row_of_input (Received frame word) is accepted = taken_where frame word (nat_eq frame.to s.node) refl is accepted
