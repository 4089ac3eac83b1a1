use Rattle.std.proofs.Common.{All, sym, ap, subst, ◌∙◌}
use Rattle.std.proofs.lemmas.Result.{IfOk-weaker}
use Rattle.plumtree.specs.Lawful.{MayBeSent}
use Rattle.node_overlay.specs.Origin.{whole_messages}
use Rattle.node_overlay.specs.Outbox.{AreFramesOf}
use Rattle.node_overlay.specs.Overlay.{Overlay}
use Rattle.node_overlay.proofs.Naming.{call_may, given, made_or_back, same_frames, unmade}
use Rattle.node_overlay.proofs.Asked.{called_or_back, handed_on}
use Rattle.node_overlay.proofs.overlay.Overlay.on_stale.Goals as goal

pub whole_outbox-outbox-requires : goal.whole_outbox-outbox-requires
whole_outbox-outbox-requires c =
    subst (λ n. All (MayBeSent n) c.in_ok-outs.outs.items) (sym c.node.ensures)
    (call_may c.self.view_is c.self.invariant c.in_ok-outs.ensures.row c.requires)

pub invariant_of-self-2 : goal.invariant_of-self-2
invariant_of-self-2 c =
    made_or_back c.or_take_back.result c.or_take_back.new.cast c.self.view_is c.self.invariant c.in_ok-outs.ensures.row c.in_ok-savepoint.ensures
    c.or_take_back.ensures.kept c.or_take_back.ensures.back tt tt c.requires

pub returns-clause-pending : goal.returns-clause-pending
returns-clause-pending c =
    called_or_back c.or_take_back.result c.in_ok-savepoint.savepoint c.or_take_back.new.cast c.or_take_back.ensures.pending
    c.or_take_back.ensures.kept c.self.view_is c.self.invariant c.in_ok-outs.ensures.row c.in_ok-savepoint.ensures tt tt c.requires

pub returns-clause-sends : goal.returns-clause-sends
returns-clause-sends c =
    let own = c.node.ensures ∙ ap (λ (o : Overlay). o.views.node) c.self.view_is in
    let sent = ap whole_messages (given c.self.view_is c.in_ok-outs.ensures.row) in
    IfOk-weaker c.or_take_back.result _ _ (λ told frames. same_frames own sent frames)
    (handed_on (AreFramesOf c.node.result c.args.number (whole_messages c.in_ok-outs.outs.items)) c.or_take_back.result c.whole_outbox-outbox.result
    c.or_take_back.ensures.outbox c.whole_outbox-outbox.ensures)

pub returns-clause-unchanged : goal.returns-clause-unchanged
returns-clause-unchanged c =
    unmade c.or_take_back.result c.or_take_back.new.cast c.self.view_is c.in_ok-outs.ensures.row c.in_ok-savepoint.ensures c.or_take_back.ensures.back tt
