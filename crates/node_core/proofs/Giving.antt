-- Whatever a node gives out in a step carries no object, or the one that is held.
use Rattle.std.proofs.Common.{◌≡◌, ℕ, ◌+◌, ◌-◌, ◌*◌, cond, ◌||◌, List, [], ◌∷◌, length, map, nat_eq, nat_le, nat_lt, All, Option, Some, None, unwrap_or, refl, sym, ap, ◌∙◌}
use Rattle.std.specs.FinMap.{find}
use Rattle.std.proofs.lemmas.Bool.{cond_both}
use Rattle.std.proofs.lemmas.List.Elements.{All-append, All-cons, All-head, All-map, All-nil, All-push, All-tail}
use Rattle.meta_types.specs.Name.{Key}
use Rattle.meta_types.specs.Order.{bytes_cmp, key_cmp, prefix_cmp}
use Rattle.dvvset.specs.Object.{Entry}
use Rattle.frame_fields.specs.Field.{key_row_parts, prefix_row_parts}
use Rattle.frame_fields.specs.declared.neighbor.NeighborAnswer.TheVariants.{No, Yes}
use Rattle.frame_fields.specs.declared.neighbor.Priority.TheVariants.{Low, High}
use Rattle.meta_frame.specs.declared.message.Message.{Message}
use Rattle.meta_frame.specs.declared.message.Message.TheVariants.{Gossip, IHave, Graft, Prune, Join, ForwardJoin, Disconnect, Neighbor, NeighborReply, Shuffle, ShuffleReply, XRoot, XPrefixes, XInner, XLeaves, XBucket, XObject, XWant, Bye}
use Rattle.meta_store.specs.Table.{Table, object_at}
use Rattle.hash_tree.specs.Tree.{Digest, bucket, inner_digests, leaf_digests, prefix_roots, rows_of, tree_root}
use Rattle.hash_tree.specs.Hashed.{rows_below}
use Rattle.exchange.specs.Answers.{answers_to, bucket_message, inner_message, leaves_message, object_if_held, object_messages, want_if_listed, want_messages, answer_key}
use Rattle.exchange.specs.Sides.{differing_keys, differing_places, same_digest}
use Rattle.peer_lists.specs.Lists.{choose, has, pick, put_last, without_all}
use Rattle.hyparview.specs.declared.event.ViewEvent.{ViewEvent}
use Rattle.hyparview.specs.declared.event.ViewEvent.TheVariants.{JoinThrough, Taken, PeerDown, ShuffleDue, Leave}
use Rattle.hyparview.specs.declared.event.ViewOut.{ViewOut}
use Rattle.hyparview.specs.declared.event.ViewOut.TheVariants as OfViews
use Rattle.hyparview.specs.Draft as view
use Rattle.hyparview.specs.Draft.{add_active, add_passive, drop_one, enter_active, enter_passive, forget_asked, is_known, is_self_or_active, leave_active, leave_passive, make_place, make_room, note_asked, remember_sent, send_each}
use Rattle.hyparview.specs.Rows as of_views
use Rattle.hyparview.specs.Rows.{ask, ask_another, end_walk, is_empty, is_walk_over, join_through, keep_midway, leave, make_room_from, member_to_replace, offer_to, on_disconnect, on_forward_join, on_join, on_neighbor_high, on_neighbor_low, on_neighbor_reply_no, on_peer_down, on_shuffle, on_shuffle_reply, on_neighbor_reply_yes, priority_of, on_shuffle_due, take_in, take_one, walks_on}
use Rattle.hyparview.specs.Views as views
use Rattle.hyparview.specs.Views.{NodeViews, draft_after}
use Rattle.plumtree.specs.declared.entry.Announcement.{Announcement}
use Rattle.plumtree.specs.declared.entry.Announcer.{Announcer}
use Rattle.plumtree.specs.declared.entry.CastOut.{CastOut}
use Rattle.plumtree.specs.declared.entry.CastOut.TheVariants as OfCast
use Rattle.plumtree.specs.Missing.{MissingObject}
use Rattle.plumtree.specs.Draft as cast
use Rattle.plumtree.specs.Rows.{ask_first, down, ihave_of, keep, next_round, none_missing, noted, on_broadcast, on_change, on_fresh, on_graft, on_ihave, on_prune, on_stale, on_tick, send_announcements, tick_each, tick_one, up}
use Rattle.plumtree.specs.Broadcast.{Broadcast, CastCall, Up, Down, Broadcasts, TakesFresh, TakesStale, TakesPrune, TakesIHave, TakesGraft, Changes, Tick, draft_of, row}
use Rattle.node_overlay.specs.declared.envelope.Envelope.{Envelope}
use Rattle.node_overlay.specs.Overlay.{envelope, messages_of}
use Rattle.node_core.specs.Draft.{envelope_of}
use Rattle.node_core.specs.Leaving.{IsOfHeld, carried_object}
use Rattle.node_core.proofs.Answering.{All-flat_map, All-mapped}

-- ---- what the views give out carries none, whatever the views are

abbrev IsBare : ViewOut → Type 0
IsBare (OfViews.Send to message) = carried_object message ≡ None
IsBare (OfViews.Up node) = Unit {0}
IsBare (OfViews.Down node) = Unit {0}

abbrev Bare : view.Draft → Type 0
Bare t = All IsBare t.out

Bare-add_passive : (word x : ℕ) (t : view.Draft) → Bare t → Bare (add_passive word x t)
unfolding add_passive
Bare-add_passive word x t h =
    cond_both (is_known x t) t (enter_passive x (make_room word t)) Bare (λ _. h)
    (λ _. cond_both (nat_lt (length t.passive) 8) t (leave_passive (choose word t.passive) t) Bare (λ _. h) (λ _. h))

Bare-make_place : (word : ℕ) (t : view.Draft) → Bare t → Bare (make_place word t)
unfolding make_place drop_one
Bare-make_place word t h =
    let d = choose word t.active in
    let told = view.send d Disconnect t in
    let left = leave_active d told in
    cond_both (nat_lt (length t.active) 4) t (add_passive word d left) Bare (λ _. h)
    (λ _. Bare-add_passive word d left
    (All-push IsBare told.out (OfViews.Down d) (All-push IsBare t.out (OfViews.Send d Disconnect) h refl) tt))

Bare-add_active : (word x : ℕ) (t : view.Draft) → Bare t → Bare (add_active word x t)
unfolding add_active
Bare-add_active word x t h =
    let placed = make_place word (leave_passive x t) in
    cond_both (is_self_or_active x t) t (enter_active x placed) Bare (λ _. h)
    (λ _. All-push IsBare placed.out (OfViews.Up x) (Bare-make_place word (leave_passive x t) h) tt)

Bare-take_one : (word : ℕ) (given : List ℕ) (x : ℕ) (t : view.Draft) → Bare t → Bare (take_one word given x t)
unfolding take_one
Bare-take_one word given x t h =
    cond_both (is_known x t) t (enter_passive x (make_room_from word given t)) Bare (λ _. h)
    (λ _. cond_both (nat_lt (length t.passive) 8) t (leave_passive (member_to_replace word given t.passive) t) Bare
    (λ _. h) (λ _. h))

Bare-take_in : (word : ℕ) (given xs : List ℕ) (t : view.Draft) → Bare t → Bare (take_in word given xs t)
Bare-take_in word given [] t h = h
Bare-take_in word given (x ∷ xs) t h =
    Bare-take_in word given xs (take_one word given x t) (Bare-take_one word given x t h)

Bare-send : (to : ℕ) (m : Message) (t : view.Draft) → carried_object m ≡ None → Bare t → Bare (view.send to m t)
Bare-send to m t none h = All-push IsBare t.out (OfViews.Send to m) h none

Bare-send_each : (tos : List ℕ) (m : Message) (t : view.Draft) → carried_object m ≡ None → Bare t
    → Bare (send_each tos m t)
Bare-send_each tos m t none h =
    All-append IsBare t.out (map (λ to. OfViews.Send to m) tos) h (All-mapped IsBare (λ to. OfViews.Send to m) (λ _. none) tos)

Bare-ask : (word : ℕ) (t : view.Draft) → Bare t → Bare (ask word t)
unfolding ask
Bare-ask word t h =
    let unasked = without_all t.asked t.passive in
    let q = choose word unasked in
    let m = Neighbor (priority_of t.active) in
    cond_both (is_empty unasked || nat_le 4 (length t.active)) (forget_asked t) (view.send q m (note_asked q t)) Bare
    (λ _. h) (λ _. Bare-send q m (note_asked q t) refl h)

Bare-ask_another : (word from : ℕ) (t : view.Draft) → Bare t → Bare (ask_another word from t)
Bare-ask_another word from t h = cond_both (has t.asked from) (ask word t) t Bare (λ _. Bare-ask word t h) (λ _. h)

Bare-join_through : (word contact : ℕ) (t : view.Draft) → Bare t → Bare (join_through word contact t)
unfolding join_through
Bare-join_through word contact t h = Bare-send contact Join (add_active word contact t) refl (Bare-add_active word contact t h)

Bare-on_join : (word from : ℕ) (t : view.Draft) → Bare t → Bare (on_join word from t)
unfolding on_join
Bare-on_join word from t h =
    let u = add_active word from t in
    Bare-send_each (without_all (from ∷ []) u.active) (ForwardJoin from 4) u refl (Bare-add_active word from t h)

Bare-end_walk : (word x : ℕ) (t : view.Draft) → Bare t → Bare (end_walk word x t)
unfolding end_walk
Bare-end_walk word x t h =
    cond_both (is_self_or_active x t) t (view.send x (Neighbor High) (add_active word x t)) Bare (λ _. h)
    (λ _. Bare-send x (Neighbor High) (add_active word x t) refl (Bare-add_active word x t h))

Bare-keep_midway : (word x ttl : ℕ) (t : view.Draft) → Bare t → Bare (keep_midway word x ttl t)
unfolding keep_midway
Bare-keep_midway word x ttl t h =
    cond_both (nat_eq ttl 2) (add_passive word x t) t Bare (λ _. Bare-add_passive word x t h) (λ _. h)

Bare-on_forward_join : (word from x ttl : ℕ) (t : view.Draft) → Bare t → Bare (on_forward_join word from x ttl t)
unfolding on_forward_join
Bare-on_forward_join word from x ttl t h =
    let others = without_all (from ∷ x ∷ []) t.active in
    let kept = keep_midway word x ttl t in
    let onward = view.send (choose word others) (ForwardJoin x (ttl - 1)) kept in
    cond_both (nat_eq x t.node) t (cond (is_walk_over ttl t.active others) (end_walk word x t) onward) Bare (λ _. h)
    (λ _. cond_both (is_walk_over ttl t.active others) (end_walk word x t) onward Bare (λ _. Bare-end_walk word x t h)
    (λ _. Bare-send (choose word others) (ForwardJoin x (ttl - 1)) kept refl (Bare-keep_midway word x ttl t h)))

Bare-on_disconnect : (word from : ℕ) (t : view.Draft) → Bare t → Bare (on_disconnect word from t)
unfolding on_disconnect
Bare-on_disconnect word from t h =
    cond_both (has t.active from) (add_passive word from (leave_active from t)) t Bare
    (λ _. Bare-add_passive word from (leave_active from t) (All-push IsBare t.out (OfViews.Down from) h tt)) (λ _. h)

Bare-on_neighbor_high : (word from : ℕ) (t : view.Draft) → Bare t → Bare (on_neighbor_high word from t)
unfolding on_neighbor_high
Bare-on_neighbor_high word from t h =
    Bare-send from (NeighborReply Yes) (add_active word from t) refl (Bare-add_active word from t h)

Bare-on_neighbor_low : (word from : ℕ) (t : view.Draft) → Bare t → Bare (on_neighbor_low word from t)
unfolding on_neighbor_low
Bare-on_neighbor_low word from t h =
    cond_both (has t.active from || nat_lt (length t.active) 4) (on_neighbor_high word from t) (view.send from (NeighborReply No) t) Bare
    (λ _. Bare-on_neighbor_high word from t h) (λ _. Bare-send from (NeighborReply No) t refl h)

Bare-on_peer_down : (word peer : ℕ) (t : view.Draft) → Bare t → Bare (on_peer_down word peer t)
unfolding on_peer_down
Bare-on_peer_down word peer t h =
    let alone = forget_asked (leave_active peer t) in
    let left = leave_passive peer t in
    cond_both (has t.active peer) (ask word alone) (ask_another word peer left) Bare
    (λ _. Bare-ask word alone (All-push IsBare t.out (OfViews.Down peer) h tt))
    (λ _. Bare-ask_another word peer left h)

Bare-on_shuffle_due : (word : ℕ) (t : view.Draft) → Bare t → Bare (on_shuffle_due word t)
unfolding on_shuffle_due
Bare-on_shuffle_due word t h =
    let to = choose word t.active in
    let offer = offer_to word to t in
    let m = Shuffle t.node 3 offer in
    cond_both (is_empty t.active) t (view.send to m (remember_sent offer t)) Bare (λ _. h)
    (λ _. Bare-send to m (remember_sent offer t) refl h)

Bare-on_shuffle : (word from origin ttl : ℕ) (nodes : List ℕ) (t : view.Draft) → Bare t
    → Bare (on_shuffle word from origin ttl nodes t)
unfolding on_shuffle
Bare-on_shuffle word from origin ttl nodes t h =
    let others = without_all (from ∷ origin ∷ []) t.active in
    let reply = pick word (length nodes) t.passive in
    let onward = view.send (choose word others) (Shuffle origin (ttl - 1) nodes) t in
    let replied = view.send origin (ShuffleReply reply) t in
    let taken = take_in word reply (origin ∷ nodes) replied in
    cond_both (nat_eq origin t.node) t (cond (walks_on ttl t.active others) onward taken) Bare (λ _. h)
    (λ _. cond_both (walks_on ttl t.active others) onward taken Bare
    (λ _. Bare-send (choose word others) (Shuffle origin (ttl - 1) nodes) t refl h)
    (λ _. Bare-take_in word reply (origin ∷ nodes) replied (Bare-send origin (ShuffleReply reply) t refl h)))

Bare-leave : (t : view.Draft) → Bare t → Bare (leave t)
unfolding leave
Bare-leave t h =
    let told = send_each t.active Bye t in
    All-append IsBare told.out (map (λ x. OfViews.Down x) t.active) (Bare-send_each t.active Bye t refl h)
    (All-mapped IsBare (λ x. OfViews.Down x) (λ _. tt) t.active)

Bare-on_message : (word from : ℕ) (m : Message) (t : view.Draft) → Bare t → Bare (of_views.on_message word from m t)
unfolding on_neighbor_reply_yes on_neighbor_reply_no on_shuffle_reply
Bare-on_message word from Join t h = Bare-on_join word from t h
Bare-on_message word from (ForwardJoin x ttl) t h = Bare-on_forward_join word from x ttl t h
Bare-on_message word from Disconnect t h = Bare-on_disconnect word from t h
Bare-on_message word from (Neighbor High) t h = Bare-on_neighbor_high word from t h
Bare-on_message word from (Neighbor Low) t h = Bare-on_neighbor_low word from t h
Bare-on_message word from (NeighborReply Yes) t h = Bare-add_active word from t h
Bare-on_message word from (NeighborReply No) t h = Bare-ask_another word from t h
Bare-on_message word from (Shuffle origin ttl nodes) t h = Bare-on_shuffle word from origin ttl nodes t h
Bare-on_message word from (ShuffleReply nodes) t h = Bare-take_in word t.sent nodes t h
Bare-on_message word from Bye t h = Bare-on_peer_down word from t h
Bare-on_message word from _ t h = h

Bare-row : (word : ℕ) (e : ViewEvent) (t : view.Draft) → Bare t → Bare (of_views.row word e t)
Bare-row word (JoinThrough contact) t h = Bare-join_through word contact t h
Bare-row word (Taken from message) t h = Bare-on_message word from message t h
Bare-row word (PeerDown peer) t h = Bare-on_peer_down word peer t h
Bare-row word ShuffleDue t h = Bare-on_shuffle_due word t h
Bare-row word Leave t h = Bare-leave t h

-- ---- what is held, in this table

-- the message in it carries what is held
abbrev pub HoldsHeld : Table → Envelope → Type 0
HoldsHeld table e = IsOfHeld table e.message

module _ (table : Table) where
  pub bare : (m : Message) → carried_object m ≡ None → IsOfHeld table m
  bare m none = λ key object is. cc

  as_held : (m : Message) (key : Key) (object : List Entry) → carried_object m ≡ Some (key, object)
      → object ≡ object_at table key → IsOfHeld table m
  as_held m key object is held = λ k o also.
      let both = sym is ∙ also in
      let none : Key × List Entry = (key, object) in
      let keys : key ≡ k = ap (λ (c : Option (Key × List Entry)). (unwrap_or c none).0) both in
      let objects : object ≡ o = ap (λ (c : Option (Key × List Entry)). (unwrap_or c none).1) both in
      sym objects ∙ held ∙ ap (object_at table) keys

  bare_messages : (outs : List ViewOut) → All IsBare outs → All (HoldsHeld table) (messages_of outs)
  bare_messages [] bares = All-nil (HoldsHeld table)
  bare_messages (OfViews.Send to message ∷ outs) bares =
      All-cons (HoldsHeld table) (envelope to message) (messages_of outs)
      (bare message (All-head IsBare (OfViews.Send to message) outs bares))
      (bare_messages outs (All-tail IsBare (OfViews.Send to message) outs bares))
  bare_messages (OfViews.Up node ∷ outs) bares = bare_messages outs (All-tail IsBare (OfViews.Up node) outs bares)
  bare_messages (OfViews.Down node ∷ outs) bares = bare_messages outs (All-tail IsBare (OfViews.Down node) outs bares)

  pub views_carry_none : (event : ViewEvent) (word : ℕ) (v : NodeViews)
      → All (HoldsHeld table) (messages_of (draft_after event word v).out)
  views_carry_none event word v =
      bare_messages (draft_after event word v).out (Bare-row word event (views.draft_of v) (All-nil IsBare))

  -- ---- the broadcast, whatever it is

  abbrev GivesHeld : CastOut → Type 0
  GivesHeld o = HoldsHeld table (envelope_of table o)

  abbrev Gives : cast.Draft → Type 0
  Gives t = All GivesHeld t.out

  Gives-send : (to : ℕ) (m : Message) (t : cast.Draft) → carried_object m ≡ None → Gives t → Gives (cast.send to m t)
  Gives-send to m t none h = All-push GivesHeld t.out (OfCast.Send to m) h (bare m none)

  Gives-gossip_to : (peers : List ℕ) (round : ℕ) (key : Key) (t : cast.Draft) → Gives t
      → Gives (cast.gossip_to peers round key t)
  Gives-gossip_to peers round key t h =
      All-append GivesHeld t.out (map (λ to. OfCast.Gossip to round key) peers) h
      (All-mapped GivesHeld (λ to. OfCast.Gossip to round key)
      (λ _. as_held (Gossip round key (object_at table key)) key (object_at table key) refl refl) peers)

  Gives-ask_first : (m : MissingObject) (rest : List Announcer) (t : cast.Draft) → Gives t → Gives (ask_first m rest t)
  Gives-ask_first m [] t h = h
  Gives-ask_first m (a ∷ rest) t h =
      Gives-send a.peer (Graft a.round m.key m.vector) (cast.becomes_eager a.peer t) refl h

  Gives-tick_one : (m : MissingObject) (t : cast.Draft) → Gives t → Gives (tick_one m t)
  unfolding tick_one
  Gives-tick_one m t h =
      cond_both (nat_lt 1 m.ticks) (keep (record m { ticks = m.ticks - 1 }) t) (ask_first m m.announcers t) Gives
      (λ _. h) (λ _. Gives-ask_first m m.announcers t h)

  Gives-tick_each : (ms : List MissingObject) (t : cast.Draft) → Gives t → Gives (tick_each ms t)
  Gives-tick_each [] t h = h
  Gives-tick_each (m ∷ ms) t h = Gives-tick_each ms (tick_one m t) (Gives-tick_one m t h)

  Gives-row : (call : CastCall) (t : cast.Draft) → Gives t → Gives (row call t)
  unfolding up down on_broadcast on_fresh on_stale on_prune on_ihave on_graft on_change on_tick
  Gives-row (Up x) t h =
      cond_both (has t.eager x || has t.lazy x) t (record t { eager = put_last x t.eager }) Gives (λ _. h) (λ _. h)
  Gives-row (Down x) t h = h
  Gives-row (Broadcasts key vector) t h = Gives-gossip_to t.eager 0 key t h
  Gives-row (TakesFresh from round key vector) t h =
      Gives-gossip_to (without_all (from ∷ []) t.eager) (next_round round) key t h
  Gives-row (TakesStale from) t h = Gives-send from Prune (cast.becomes_lazy from t) refl h
  Gives-row (TakesPrune from) t h = h
  Gives-row (TakesIHave from round key vector stale) t h =
      cond_both stale t (record t { missing = noted from round key vector t.missing }) Gives (λ _. h) (λ _. h)
  Gives-row (TakesGraft from round key held) t h =
      Gives-gossip_to (cond held (from ∷ []) []) round key (cast.becomes_eager from t) h
  Gives-row (Changes key vector) t h = h
  Gives-row Tick t h =
      Gives-tick_each t.missing (none_missing (send_announcements t))
      (All-append GivesHeld t.out (map ihave_of t.queue) h
      (All-mapped GivesHeld ihave_of (λ (a : Announcement). bare (IHave a.round a.key a.vector) refl) t.queue))

  pub broadcast_carries_held : (call : CastCall) (b : Broadcast)
      → All (HoldsHeld table) (map (envelope_of table) (row call (draft_of b)).out)
  broadcast_carries_held call b =
      All-map (HoldsHeld table) (envelope_of table) (row call (draft_of b)).out
      (Gives-row call (draft_of b) (All-nil GivesHeld))

  -- ---- what a message of an exchange is answered

  wanted : (key : Key) (digest : Option Digest) → All (IsOfHeld table) (want_messages key digest)
  wanted key None = All-nil (IsOfHeld table)
  wanted key (Some digest) = All-cons (IsOfHeld table) (XWant key) [] (bare (XWant key) refl) (All-nil (IsOfHeld table))

  found : (key : Key) (object : Option (List Entry)) → find key_cmp key table ≡ object → All (IsOfHeld table) (object_messages key object)
  found key None absent = All-nil (IsOfHeld table)
  found key (Some object) here =
      All-cons (IsOfHeld table) (XObject key object) []
      (as_held (XObject key object) key object refl (ap (λ f. unwrap_or f []) (sym here))) (All-nil (IsOfHeld table))

  held : (key : Key) → All (IsOfHeld table) (object_if_held table key)
  held key = found key (find key_cmp key table) refl

  answered : (m : Message) → All (IsOfHeld table) (answers_to table m)
  unfolding answers_to
  answered (XRoot theirs) =
      let own = XPrefixes (prefix_roots (rows_of table)) in
      cond_both (same_digest theirs (tree_root (rows_of table))) [] (own ∷ []) (All (IsOfHeld table))
      (λ _. All-nil (IsOfHeld table)) (λ _. All-cons (IsOfHeld table) own [] (bare own refl) (All-nil (IsOfHeld table)))
  answered (XPrefixes theirs) =
      All-mapped (IsOfHeld table) (inner_message table) (λ p. bare (inner_message table p) refl)
      (differing_keys prefix_cmp (map prefix_row_parts theirs) (map prefix_row_parts (prefix_roots (rows_of table))))
  answered (XInner p theirs) =
      All-mapped (IsOfHeld table) (leaves_message table p) (λ n. bare (leaves_message table p n) refl)
      (differing_places theirs (inner_digests (rows_below p table)))
  answered (XLeaves p number theirs) =
      let bucket_at = λ (n : ℕ). bucket_message table p (16 * number + n) in
      let places = differing_places theirs (leaf_digests (rows_below p table) number) in
      cond_both (nat_le 16 number) [] (map bucket_at places) (All (IsOfHeld table))
      (λ _. All-nil (IsOfHeld table)) (λ _. All-mapped (IsOfHeld table) bucket_at (λ n. bare (bucket_at n) refl) places)
  answered (XBucket p leaf theirs) =
      All-flat_map (IsOfHeld table) (λ bytes. answer_key table theirs (record { prefix = p; key = bytes }))
      (λ bytes.
      let key : Key = record { prefix = p; key = bytes } in
      All-append (IsOfHeld table) (object_if_held table key) (want_if_listed theirs key) (held key)
      (wanted key (find bytes_cmp bytes (map key_row_parts theirs))))
      (differing_keys bytes_cmp (map key_row_parts theirs) (map key_row_parts (bucket (rows_below p table) leaf)))
  answered (XWant key) = held key
  answered _ = All-nil (IsOfHeld table)

  pub answers_carry_held : (to : ℕ) (m : Message) → All (HoldsHeld table) (map (envelope to) (answers_to table m))
  answers_carry_held to m = All-map (HoldsHeld table) (envelope to) (answers_to table m) (answered m)
