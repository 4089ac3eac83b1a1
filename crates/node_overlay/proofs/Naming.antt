-- A node never names itself, and what its views and its broadcast give out may be sent.
use Rattle.std.proofs.Common.{◌≡◌, ◌≢◌, ℕ, ◌<◌, ◌^◌, ◌||◌, List, [], ◌∷◌, map, All, Result, Ok, Err, IfOk, OnOk, OnErr, refl, sym, ap, subst, ◌∙◌}
use Rattle.std.proofs.lemmas.Bool.{or_parts, cond_both}
use Rattle.std.proofs.lemmas.List.Elements.{All-nil, All-cons, All-head, All-tail, All-same}
use Rattle.peer_lists.specs.Lists.{has}
use Rattle.meta_types.specs.Name.{Key, IsKey}
use Rattle.dvvset.specs.Object.{Counter, Entry}
use Rattle.frame_fields.proofs.Spellable.{key_fits}
use Rattle.meta_frame.specs.Frame.{IsMessage, spelling}
use Rattle.meta_frame.specs.declared.message.Message.{Message}
use Rattle.meta_frame.specs.declared.message.Message.TheVariants.{IHave, Graft, Prune, Join, ForwardJoin, Disconnect, Neighbor, NeighborReply, Shuffle, ShuffleReply, Bye}
use Rattle.hyparview.specs.declared.event.ViewEvent.{ViewEvent}
use Rattle.hyparview.specs.declared.event.ViewOut.{ViewOut}
use Rattle.hyparview.specs.declared.event.ViewOut.TheVariants as OfViews
use Rattle.hyparview.specs.Lawful.{GoToOthers, IsOfAnother, IsOfViews, IsToAnother, SendsOfViews}
use Rattle.hyparview.specs.Views.{NodeViews, draft_after, views_of}
use Rattle.hyparview.proofs.Standing.{each_step_tells_it_all}
use Rattle.plumtree.specs.declared.entry.CastOut.{CastOut}
use Rattle.plumtree.specs.declared.entry.CastOut.TheVariants as OfCast
use Rattle.plumtree.specs.Rows.{up, down}
use Rattle.plumtree.specs.Broadcast.{Broadcast, CastCall, Up, Down, IsCall, broadcast_of, draft_of}
use Rattle.plumtree.specs.Lawful.{IsOfBroadcast, MayBeSent, MayCome, NamesOthers, after_call}
use Rattle.plumtree.specs.Savepoint.{IsOfObjects, Standing, rolled_back, savepoint_of}
use Rattle.plumtree.proofs.Sending.{sends_to_others}
use Rattle.plumtree.proofs.TakingBack.{are_taken_back}
use Rattle.meta_store.specs.Table.{IsHeld}
use Rattle.node_overlay.specs.declared.envelope.Envelope.{Envelope}
use Rattle.node_overlay.specs.Outbox.{AreFramesOf, HasSpelling, IsSendable, IsSpelledVector, MaySend, frames_from}
use Rattle.node_overlay.specs.Origin.{envelope_with, whole_messages}
use Rattle.node_overlay.specs.Overlay.{ArePeers, IsOfNoPeer, IsOverlay, NamesOthersOn, Overlay, overlay_after_view, envelope, messages_of, out_of, sent_by_view, overlay_of, overlay_after_call}
use Rattle.node_overlay.proofs.Peering.{hearing, stay_peers}

-- ---- what waits for a tick names others, whoever comes and goes

-- of the broadcast, what waits
abbrev waiting : Broadcast → Broadcast
waiting b = record b { eager = []; lazy = [] }

waiting-up : (node x : ℕ) (b : Broadcast) → NamesOthers node (waiting b)
    → NamesOthers node (waiting (after_call b (Up x)))
unfolding up
waiting-up node x b h =
    let t = draft_of b in
    cond_both (has b.eager x || has b.lazy x) t _ (λ u. NamesOthers node (waiting (broadcast_of u)))
    (λ _. h) (λ _. h)

waiting-down : (node x : ℕ) (b : Broadcast) → NamesOthers node (waiting b)
    → NamesOthers node (waiting (after_call b (Down x)))
unfolding down
waiting-down node x b h =
    let others = (sends_to_others.goes_on node (waiting b) (Down x) h tt).broadcast in
    record { eager = refl; lazy = refl; queue = others.queue; missing = others.missing }

waiting-follow : (node : ℕ) (outs : List ViewOut) (b : Broadcast) → NamesOthers node (waiting b)
    → NamesOthers node (waiting (hearing outs b))
waiting-follow node [] b h = h
waiting-follow node (OfViews.Send to message ∷ outs) b h = waiting-follow node outs b h
waiting-follow node (OfViews.Up x ∷ outs) b h =
    waiting-follow node outs (after_call b (Up x)) (waiting-up node x b h)
waiting-follow node (OfViews.Down x ∷ outs) b h =
    waiting-follow node outs (after_call b (Down x)) (waiting-down node x b h)

-- ---- an overlay goes on

-- the node isn't in its own active view, and so no peer
overlay : (o : Overlay) → ArePeers o → NamesOthers o.views.node (waiting o.cast) → IsOverlay o
overlay o peers waits =
    let node = o.views.node in
    let absent = or_parts (has o.cast.eager node) (has o.cast.lazy node) (peers.same node ∙ peers.lawful.not_itself_active) in
    record {
      peers = peers;
      names_others = record { eager = absent.0; lazy = absent.1; queue = waits.queue; missing = waits.missing };
    }

IsOverlay-view : (o : Overlay) (event : ViewEvent) (word : ℕ) → IsOverlay o
    → IsOverlay (overlay_after_view event word o)
IsOverlay-view o event word h =
    let after = draft_after event word o.views in
    let tells = each_step_tells_it_all o.views event word (views_of after) after.out h.peers.lawful (record { views = refl; gives = refl }) in
    let waits = waiting-follow o.views.node after.out o.cast (record { eager = refl; lazy = refl; queue = h.names_others.queue; missing = h.names_others.missing }) in
    overlay (overlay_after_view event word o) (stay_peers.views o event word h.peers)
    (subst (λ node. NamesOthers node (waiting (hearing after.out o.cast))) (sym tells.node) waits)

IsOverlay-told : (o : Overlay) (call : CastCall) → IsOfNoPeer call → MayCome o.views.node call
    → IsOverlay o → IsOverlay (overlay_after_call call o)
IsOverlay-told o call of_none may h =
    record {
      peers = stay_peers.calls o call of_none h.peers;
      names_others = (sends_to_others.goes_on o.views.node o.cast call h.names_others may).broadcast;
    }

pub names_others_on : NamesOthersOn
names_others_on = record {
  begins = λ node.
      record { peers = stay_peers.begins node; names_others = sends_to_others.begins node };
  views = λ o event word of_another h. IsOverlay-view o event word h;
  calls = IsOverlay-told;
}

-- the same of what a call of the broadcast left of an overlay, which is how its contract says it
pub told_on : {o : Overlay} {views : NodeViews} {old new : Broadcast} {call : CastCall}
    {out : List CastOut} → overlay_of views old ≡ o → IsOverlay (overlay_of views old)
    → IsCall call old new out → IsOfNoPeer call → MayCome o.views.node call
    → IsOverlay (overlay_of views new)
told_on {views = views} {old = old} {call = call} same h row of_none may =
    let at_views = subst (λ (o : Overlay). MayCome o.views.node call) (sym same) may in
    subst (λ cast. IsOverlay (overlay_of views cast)) (sym row.broadcast) (IsOverlay-told (overlay_of views old) call of_none at_views h)

-- if a call's result is handed on as it is
pub told_or_kept : {X E : Type 0} (items : X → List CastOut) (r : Result X E) (new : Broadcast)
    (call : CastCall) {o : Overlay} {views : NodeViews} {old : Broadcast} → overlay_of views old ≡ o
    → IsOverlay (overlay_of views old) → IfOk r (λ x. IsCall call old new (items x))
    → OnErr r (new ≡ old) → IsOfNoPeer call → MayCome o.views.node call
    → IsOverlay (overlay_of views new)
told_or_kept items (Ok x) new call same h row kept of_none may = told_on same h row of_none may
told_or_kept items (Err fault) new call {views = views} same h row kept of_none may =
    subst (λ cast. IsOverlay (overlay_of views cast)) (sym kept) h

-- ---- the frames of a call

-- what a call gave out
pub given : {o : Overlay} {views : NodeViews} {old new : Broadcast} {call : CastCall} {out : List CastOut}
    → overlay_of views old ≡ o → IsCall call old new out → out ≡ out_of call o
given {call = call} same row = row.gives ∙ ap (λ (o : Overlay). out_of call o) same

-- frames of the same node and messages
pub same_frames : {n m number : ℕ} {sent es : List Envelope} {outbox : List (List ℕ)} → n ≡ m → sent ≡ es
    → AreFramesOf n number sent outbox → AreFramesOf m number es outbox
same_frames {n = n} {number = number} {es = es} {outbox = outbox} node is h =
    subst (λ m. AreFramesOf m number es outbox) node (subst (λ es. AreFramesOf n number es outbox) is h)

-- what `outbox` gives are the frames of equal messages
pub framed : {E : Type 0} (r : Result (List (List ℕ)) E) (node number : ℕ) {sent es : List Envelope} → sent ≡ es
    → IfOk r (λ outbox. outbox ≡ map spelling (frames_from node number sent))
    → IfOk r (λ outbox. All HasSpelling (frames_from node number sent)) → IfOk r (AreFramesOf node number es)
framed (Ok outbox) node number is frames lawful = same_frames refl is (record { frames = frames; lawful = lawful })
framed (Err fault) node number is frames lawful = tt

-- ---- a call that is taken back if memory ran out

-- the broadcast goes back to where it stood before the call
is_rolled_back : {old between : Broadcast} {call : CastCall} {standing : Standing} {out : List CastOut}
    → IsCall call old between out → standing ≡ savepoint_of old → IsOfObjects call
    → rolled_back standing between ≡ old
is_rolled_back {old = old} {call = call} row stood of =
    (λ i. rolled_back (stood i) (row.broadcast i)) ∙ are_taken_back old call of

-- made or taken back, the overlay keeps what always holds
pub made_or_back : {X E : Type 0} (r : Result X E) (new : Broadcast) {between old : Broadcast} {call : CastCall}
    {standing : Standing} {out : List CastOut} {o : Overlay} {views : NodeViews}
    → overlay_of views old ≡ o → IsOverlay (overlay_of views old) → IsCall call old between out
    → standing ≡ savepoint_of old → OnOk r (new ≡ between) → OnErr r (new ≡ rolled_back standing between)
    → IsOfObjects call → IsOfNoPeer call → MayCome o.views.node call → IsOverlay (overlay_of views new)
made_or_back (Ok x) new {views = views} same h row stood made back of of_none may =
    subst (λ cast. IsOverlay (overlay_of views cast)) (sym made) (told_on same h row of_none may)
made_or_back (Err fault) new {views = views} same h row stood made back of of_none may =
    subst (λ cast. IsOverlay (overlay_of views cast)) (sym (back ∙ is_rolled_back row stood of)) h

-- taken back, the overlay is the old one
pub unmade : {X E : Type 0} (r : Result X E) (new : Broadcast) {between old : Broadcast} {call : CastCall}
    {standing : Standing} {out : List CastOut} {o : Overlay} {views : NodeViews}
    → overlay_of views old ≡ o → IsCall call old between out → standing ≡ savepoint_of old
    → OnErr r (new ≡ rolled_back standing between) → IsOfObjects call
    → OnErr r (overlay_of views new ≡ o)
unmade (Ok x) new same row stood back of = tt
unmade (Err fault) new {views = views} same row stood back of =
    ap (overlay_of views) (back ∙ is_rolled_back row stood of) ∙ same

-- what another node announces, of a round of a frame, a key and a spelled vector, may come
pub announced : {node from round : ℕ} (key : Key) (vector : List Counter) → from ≢ node
    → round < 2 ^ 16 → IsKey key → IsSpelledVector vector
    → (from ≢ node) × IsMessage (IHave round key vector)
announced key vector another low is spelled = (another, (low, (key_fits key is, spelled)))

-- ---- what is given out may be sent

-- a call's result, handed on as it is
pub told_may : {X E : Type 0} (items : X → List CastOut) (r : Result X E) (new : Broadcast)
    (call : CastCall) {o : Overlay} {views : NodeViews} {old : Broadcast} → overlay_of views old ≡ o
    → IsOverlay (overlay_of views old) → IfOk r (λ x. IsCall call old new (items x))
    → MayCome o.views.node call → IfOk r (λ x. All (MayBeSent o.views.node) (items x))
told_may items (Ok x) new call {o = o} same h row may =
    let is = subst IsOverlay same h in
    let gives = row.gives ∙ ap (λ (o : Overlay). out_of call o) same in
    All-same (MayBeSent o.views.node) (items x) (out_of call o) gives
    (sends_to_others.goes_on o.views.node o.cast call is.names_others may).out
told_may items (Err fault) new call same h row may = tt

-- the same, of a call that was made
pub call_may : {o : Overlay} {views : NodeViews} {old new : Broadcast} {call : CastCall}
    {out : List CastOut} → overlay_of views old ≡ o → IsOverlay (overlay_of views old)
    → IsCall call old new out → MayCome o.views.node call → All (MayBeSent views.node) out
call_may {views = views} {old = old} {call = call} {out = out} same h row may =
    let at_views = subst (λ (o : Overlay). MayCome o.views.node call) (sym same) may in
    All-same (MayBeSent views.node) out (out_of call (overlay_of views old)) row.gives
    (sends_to_others.goes_on views.node old call h.names_others at_views).out

sendable_of_broadcast : (m : Message) → IsOfBroadcast m → IsSendable m
sendable_of_broadcast (IHave round key vector) of = of.1.1
sendable_of_broadcast (Graft round key vector) of = of.1.1
sendable_of_broadcast Prune of = tt
sendable_of_broadcast _ of = absurd of

pub whole_may : (node : ℕ) (outs : List CastOut) → All (MayBeSent node) outs
    → All (MaySend node) (whole_messages outs)
whole_may node [] may = All-nil (MaySend node)
whole_may node (OfCast.Gossip to round key ∷ outs) may =
    whole_may node outs (All-tail (MayBeSent node) (OfCast.Gossip to round key) outs may)
whole_may node (OfCast.Send to message ∷ outs) may =
    let first = All-head (MayBeSent node) (OfCast.Send to message) outs may in
    All-cons (MaySend node) (envelope to message) (whole_messages outs)
    (record { apart = first.0; sendable = sendable_of_broadcast message first.1 })
    (whole_may node outs (All-tail (MayBeSent node) (OfCast.Send to message) outs may))

may_send : (node : ℕ) (entries : List Entry) (out : CastOut) → IsHeld entries → MayBeSent node out
    → MaySend node (envelope_with entries out)
may_send node entries (OfCast.Gossip to round key) held may = record { apart = may; sendable = held }
may_send node entries (OfCast.Send to message) held may =
    record { apart = may.0; sendable = sendable_of_broadcast message may.1 }

pub gossips_may : (node : ℕ) (entries : List Entry) (outs : List CastOut) → IsHeld entries → All (MayBeSent node) outs
    → All (MaySend node) (map (envelope_with entries) outs)
gossips_may node entries [] held may = All-nil (MaySend node)
gossips_may node entries (out ∷ outs) held may =
    All-cons (MaySend node) (envelope_with entries out) (map (envelope_with entries) outs)
    (may_send node entries out held (All-head (MayBeSent node) out outs may))
    (gossips_may node entries outs held (All-tail (MayBeSent node) out outs may))

sendable_of_views : (m : Message) → IsOfViews m → IsSendable m
sendable_of_views Join of = tt
sendable_of_views (ForwardJoin node ttl) of = tt
sendable_of_views Disconnect of = tt
sendable_of_views (Neighbor priority) of = tt
sendable_of_views (NeighborReply answer) of = tt
sendable_of_views (Shuffle origin ttl nodes) of = tt
sendable_of_views (ShuffleReply nodes) of = tt
sendable_of_views Bye of = tt
sendable_of_views _ of = absurd of

messages_may : (node : ℕ) (outs : List ViewOut) → GoToOthers node outs → All SendsOfViews outs
    → All (MaySend node) (messages_of outs)
messages_may node [] others of = All-nil (MaySend node)
messages_may node (OfViews.Send to message ∷ outs) others of =
    All-cons (MaySend node) (envelope to message) (messages_of outs)
    (record {
      apart = All-head (IsToAnother node) (OfViews.Send to message) outs others;
      sendable = sendable_of_views message (All-head SendsOfViews (OfViews.Send to message) outs of);
    })
    (messages_may node outs (All-tail (IsToAnother node) (OfViews.Send to message) outs others)
    (All-tail SendsOfViews (OfViews.Send to message) outs of))
messages_may node (OfViews.Up x ∷ outs) others of =
    messages_may node outs (All-tail (IsToAnother node) (OfViews.Up x) outs others) (All-tail SendsOfViews (OfViews.Up x) outs of)
messages_may node (OfViews.Down x ∷ outs) others of =
    messages_may node outs (All-tail (IsToAnother node) (OfViews.Down x) outs others) (All-tail SendsOfViews (OfViews.Down x) outs of)

pub view_may : (o : Overlay) (event : ViewEvent) (word : ℕ) → IsOfAnother o.views.node event
    → IsOverlay o → All (MaySend o.views.node) (sent_by_view event word o)
view_may o event word of_another h =
    let after = draft_after event word o.views in
    let tells = each_step_tells_it_all o.views event word (views_of after) after.out h.peers.lawful (record { views = refl; gives = refl }) in
    messages_may o.views.node after.out (tells.others of_another) tells.of_views
