use Rattle.std.proofs.Common.{subst}
use Rattle.plumtree.specs.Broadcast.{Broadcasts, TakesFresh}
use Rattle.plumtree.specs.Lawful.{MayCome}
use Rattle.node_overlay.specs.declared.origin.Origin.{Origin}
use Rattle.node_overlay.specs.Origin.{call_of}
use Rattle.node_overlay.proofs.Naming.{told_may, told_or_kept}
use Rattle.node_overlay.proofs.overlay.Overlay.call.Goals as goal

may_write : (c : goal.After-on_broadcast)
    → MayCome c.args.self.now.views.node (Broadcasts c.args.key.now c.args.vector.now)
may_write c =
    subst (λ (o : Origin). MayCome c.args.self.now.views.node (call_of o c.args.key.now c.args.vector.now)) c.in-Write.is c.requires

may_hear : (c : goal.After-on_fresh)
    → MayCome c.args.self.now.views.node (TakesFresh c.in-Gossip.from c.in-Gossip.round c.args.key.now c.args.vector.now)
may_hear c =
    subst (λ (o : Origin). MayCome c.args.self.now.views.node (call_of o c.args.key.now c.args.vector.now)) c.in-Gossip.is c.requires

pub invariant_of-self : goal.invariant_of-self
invariant_of-self c =
    let call = c.on_broadcast in
    told_or_kept (λ outs. outs.items) call.result call.new.self _ c.self.view_is c.self.invariant call.ensures.row call.ensures.unchanged tt (may_write c)

pub returns-in-Write-clause-may : goal.returns-in-Write-clause-may
returns-in-Write-clause-may c =
    let call = c.on_broadcast in
    told_may (λ outs. outs.items) call.result call.new.self _ c.self.view_is c.self.invariant call.ensures.row (may_write c)

pub invariant_of-self-in-Gossip : goal.invariant_of-self-in-Gossip
invariant_of-self-in-Gossip c =
    let call = c.on_fresh in
    told_or_kept (λ outs. outs.items) call.result call.new.self _ c.self.view_is c.self.invariant call.ensures.row call.ensures.unchanged tt (may_hear c)

pub returns-in-Gossip-clause-may : goal.returns-in-Gossip-clause-may
returns-in-Gossip-clause-may c =
    let call = c.on_fresh in
    told_may (λ outs. outs.items) call.result call.new.self _ c.self.view_is c.self.invariant call.ensures.row (may_hear c)
