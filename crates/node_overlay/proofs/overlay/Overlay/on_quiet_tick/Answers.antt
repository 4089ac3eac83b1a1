use Rattle.std.proofs.Common.{◌≡◌, All, refl, sym, ap, subst, ◌∙◌}
use Rattle.std.proofs.lemmas.Result.{IfOk-at_ok}
use Rattle.plumtree.specs.Broadcast.{Tick}
use Rattle.plumtree.specs.Lawful.{after_call}
use Rattle.plumtree.specs.Ticking.{Peers, peers_of, with_peers}
use Rattle.node_overlay.specs.declared.pending.Pending.TheVariants.{Tick as OfTick}
use Rattle.node_overlay.specs.Origin.{whole_messages}
use Rattle.node_overlay.specs.Outbox.{AreFramesOf, MaySend}
use Rattle.node_overlay.specs.Overlay.{IsOverlay, Overlay, out_of, overlay_after_call, overlay_of}
use Rattle.node_overlay.proofs.Naming.{framed, names_others_on, same_frames}
use Rattle.node_overlay.proofs.Asked.{foreseen}
use Rattle.node_overlay.proofs.overlay.Overlay.on_quiet_tick.Goals as goal

pub outbox-outbox-requires : goal.outbox-outbox-requires
outbox-outbox-requires c =
    let own = c.node.ensures ∙ ap (λ (o : Overlay). o.views.node) c.self.view_is in
    subst (λ n. All (MaySend n) c.in_ok-peers.sent.items) (sym own) c.in_ok-peers.ensures.may

pub returns-clause-pending : goal.returns-clause-pending
returns-clause-pending c =
    let o = c.args.self.now in
    let peers = IfOk-at_ok (λ (peers : Peers). peers ≡ peers_of (after_call o.cast Tick)) c.in_ok-peers-2.ensures.value.0 c.in_ok-peers.ensures.peers in
    let was = subst IsOverlay c.self.view_is c.self.invariant in
    foreseen (OfTick c.in_ok-peers-2.peers) o (overlay_after_call Tick o)
    (ap (λ (peers : Peers). overlay_of o.views (with_peers peers (after_call o.cast Tick))) peers) refl was
    (names_others_on.calls o Tick tt tt was)

pub returns-clause-sends : goal.returns-clause-sends
returns-clause-sends c =
    let call = c.outbox-outbox in
    let own = c.node.ensures ∙ ap (λ (o : Overlay). o.views.node) c.self.view_is in
    let frames = framed call.result c.node.result c.args.number c.in_ok-peers.ensures.sent call.ensures.frames call.ensures.lawful in
    same_frames own refl
    (IfOk-at_ok (AreFramesOf c.node.result c.args.number (whole_messages (out_of Tick c.args.self.now))) c.in_ok-peers-2.ensures.value.1 frames)
