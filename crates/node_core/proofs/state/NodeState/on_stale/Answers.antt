use Rattle.node_core.proofs.Arriving.{prune_sent, stale_taken}
use Rattle.node_core.proofs.Making.{own_frames}
use Rattle.node_core.proofs.state.NodeState.on_stale.Goals as goal

pub returns : goal.returns
returns c =
    let told = c.in_ok-pending.ensures in
    let sent = own_frames c.self.view_is c.self.invariant.own_views (prune_sent c.args.from c.self.inside.overlay) told.sends in
    stale_taken c.args.from c.args.round c.args.key.now c.args.came.now c.args.self.now _ c.in_ok-pending.pending c.on_stale.new.self c.in_ok-pending.outbox
    c.self.view_is c.self.invariant told.pending c.requires.stale sent.frames sent.lawful
