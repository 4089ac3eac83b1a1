use Rattle.node_core.proofs.Attempting.{tick_attempt}
use Rattle.node_core.proofs.state.NodeState.tick.Goals as goal

pub returns : goal.returns
returns c =
    tick_attempt c.in_ok-pending.pending c.args.word c.saturating_add-ticks.result c.args.self.now _ c.in_ok-pending.outbox c.self.view_is
    c.self.invariant c.views.ensures.lawful c.saturating_add-ticks.ensures c.in_ok-pending.ensures.pending c.in_ok-pending.ensures.sends
