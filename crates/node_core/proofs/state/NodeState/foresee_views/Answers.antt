use Rattle.node_core.proofs.Attempting.{views_foreseen}
use Rattle.node_core.proofs.state.NodeState.foresee_views.Goals as goal

pub returns-clause-foreseen : goal.returns-clause-foreseen
returns-clause-foreseen c =
    views_foreseen c.in_ok-pending.pending c.args.event.now c.args.word c.args.self.now _ c.in_ok-pending.outbox
    c.self.view_is c.self.invariant c.views.ensures.lawful c.in_ok-pending.ensures.pending c.in_ok-pending.ensures.sends
