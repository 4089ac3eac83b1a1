use Rattle.std.proofs.Common.{◌≡◌, Vec, Global, All, refl, ap, subst}
use Rattle.std.proofs.lemmas.Result.{IfOk-at_ok, IfOk-weaker}
use Rattle.std.proofs.lemmas.List.Elements.{All-same}
use Rattle.plumtree.specs.Broadcast.{Tick}
use Rattle.plumtree.specs.Lawful.{MayBeSent}
use Rattle.node_overlay.specs.declared.envelope.Envelope.{Envelope}
use Rattle.node_overlay.specs.Origin.{whole_messages}
use Rattle.node_overlay.specs.Outbox.{MaySend}
use Rattle.node_overlay.specs.Overlay.{Overlay}
use Rattle.node_overlay.proofs.Naming.{call_may, whole_may}
use Rattle.node_overlay.proofs.overlay.Overlay.after_broadcast_tick.Goals as goal

pub returns-clause-may : goal.returns-clause-may
returns-clause-may c =
    let node = c.args.self.now.views.node in
    let outs = c.in_ok-peers.outs.items in
    let own = ap (λ (o : Overlay). o.views.node) c.self.view_is in
    let may = subst (λ n. All (MayBeSent n) outs) own (call_may {call = Tick} c.self.view_is c.self.invariant (record { broadcast = refl; gives = c.in_ok-peers.ensures.out }) tt) in
    IfOk-weaker c.both.result _ _
    (λ after is.
    let sent = IfOk-at_ok (λ (v : Vec Envelope Global). v.items ≡ whole_messages outs) is.1 c.whole_messages-sent.ensures in
    All-same (MaySend node) after.1.items (whole_messages outs) sent (whole_may node outs may))
    c.both.ensures.value
