use Rattle.std.proofs.Common.{◌≡◌, ◌++◌, Vec, Global, All, refl, sym, ap, subst, ◌∙◌}
use Rattle.std.proofs.lemmas.Result.{IfOk-at_ok}
use Rattle.hyparview.specs.declared.event.ViewEvent.TheVariants.{ShuffleDue}
use Rattle.hyparview.specs.Views.{NodeViews, draft_after, views_of}
use Rattle.plumtree.specs.Broadcast.{Tick}
use Rattle.plumtree.specs.Ticking.{Peers, peers_of, with_peers}
use Rattle.plumtree.specs.Lawful.{after_call}
use Rattle.node_overlay.specs.declared.envelope.Envelope.{Envelope}
use Rattle.node_overlay.specs.declared.pending.Pending.TheVariants.{Shuffle}
use Rattle.node_overlay.specs.Origin.{whole_messages}
use Rattle.node_overlay.specs.Outbox.{AreFramesOf, MaySend}
use Rattle.node_overlay.specs.Overlay.{IsOverlay, Overlay, out_of, overlay_after_call, overlay_after_view, overlay_of, sent_by_view}
use Rattle.node_overlay.proofs.Naming.{names_others_on, same_frames}
use Rattle.node_overlay.proofs.Asked.{foreseen}
use Rattle.node_overlay.proofs.Shuffling.{after_shuffling}
use Rattle.node_overlay.proofs.overlay.Overlay.on_shuffling_tick.Goals as goal

-- what the two made
views_is : (c : goal.In_ok-peers-2) → c.in_ok-peers.views ≡ views_of (draft_after ShuffleDue c.args.word c.args.self.now.views)
views_is c =
    IfOk-at_ok (λ (t : NodeViews × Vec Envelope Global). t.0 ≡ views_of (draft_after ShuffleDue c.args.word c.args.self.now.views))
    c.in_ok-peers.ensures.value.1 c.after_shuffle.ensures.views

is_sent : (c : goal.In_ok-peers-2) → c.in_ok-peers.sent.items ++ c.in_ok-peers.more.items
    ≡ whole_messages (out_of Tick c.args.self.now) ++ sent_by_view ShuffleDue c.args.word c.args.self.now
is_sent c =
    let o = c.args.self.now in
    let front = IfOk-at_ok (λ (t : Peers × Vec Envelope Global). t.1.items ≡ whole_messages (out_of Tick o)) c.in_ok-peers.ensures.value.0
    c.after_broadcast_tick-ticked.ensures.sent in
    let back = IfOk-at_ok (λ (t : NodeViews × Vec Envelope Global). t.1.items ≡ sent_by_view ShuffleDue c.args.word o) c.in_ok-peers.ensures.value.1
    c.after_shuffle.ensures.sent in
    λ i. front i ++ back i

pub joined_outbox-outbox-requires-clause-front : goal.joined_outbox-outbox-requires-clause-front
joined_outbox-outbox-requires-clause-front c =
    let o = c.args.self.now in
    let own = c.node.ensures ∙ ap (λ (o : Overlay). o.views.node) c.self.view_is in
    subst (λ n. All (MaySend n) c.in_ok-peers.sent.items) (sym own)
    (IfOk-at_ok (λ (t : Peers × Vec Envelope Global). All (MaySend o.views.node) t.1.items) c.in_ok-peers.ensures.value.0
    c.after_broadcast_tick-ticked.ensures.may)

pub joined_outbox-outbox-requires-clause-back : goal.joined_outbox-outbox-requires-clause-back
joined_outbox-outbox-requires-clause-back c =
    let o = c.args.self.now in
    let own = c.node.ensures ∙ ap (λ (o : Overlay). o.views.node) c.self.view_is in
    subst (λ n. All (MaySend n) c.in_ok-peers.more.items) (sym own)
    (IfOk-at_ok (λ (t : NodeViews × Vec Envelope Global). All (MaySend o.views.node) t.1.items) c.in_ok-peers.ensures.value.1
    c.after_shuffle.ensures.may)

pub returns-clause-pending : goal.returns-clause-pending
returns-clause-pending c =
    let o = c.args.self.now in
    let word = c.args.word in
    let made = c.in_ok-peers-2.ensures.value.0 in
    let views = IfOk-at_ok (λ (t : Peers × NodeViews). t.1 ≡ views_of (draft_after ShuffleDue word o.views)) made (views_is c) in
    let foreseen_peers = IfOk-at_ok (λ (t : Peers × Vec Envelope Global). t.0 ≡ peers_of (after_call o.cast Tick)) c.in_ok-peers.ensures.value.0
    c.after_broadcast_tick-ticked.ensures.peers in
    let peers = IfOk-at_ok (λ (t : Peers × NodeViews). t.0 ≡ peers_of (after_call o.cast Tick)) made foreseen_peers in
    let was = subst IsOverlay c.self.view_is c.self.invariant in
    foreseen (Shuffle c.in_ok-peers-2.views c.in_ok-peers-2.peers) o (overlay_after_view ShuffleDue word (overlay_after_call Tick o))
    ((λ i. overlay_of (views i) (with_peers (peers i) (after_call o.cast Tick))) ∙ after_shuffling word o) refl was
    (names_others_on.views (overlay_after_call Tick o) ShuffleDue word tt (names_others_on.calls o Tick tt tt was))

pub returns-clause-sends : goal.returns-clause-sends
returns-clause-sends c =
    let own = c.node.ensures ∙ ap (λ (o : Overlay). o.views.node) c.self.view_is in
    same_frames own (is_sent c)
    (IfOk-at_ok (AreFramesOf c.node.result c.args.number (c.in_ok-peers.sent.items ++ c.in_ok-peers.more.items)) c.in_ok-peers-2.ensures.value.1
    c.joined_outbox-outbox.ensures)
