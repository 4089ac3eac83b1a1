use Rattle.std.proofs.Common.{subst}
use Rattle.node_core.specs.Draft.{step_views}
use Rattle.node_core.specs.Node.{IsInLife}
use Rattle.node_core.specs.Step.{begun}
use Rattle.node_core.proofs.Attempting.{foreseen_attempt}
use Rattle.node_core.proofs.state.NodeState.step_views.Goals as goal

pub returns : goal.returns
returns c =
    foreseen_attempt c.in_ok-pending.pending c.args.self.now (step_views c.args.event.now c.args.word (begun c.args.self.now)) c.args.reply
    c.in_ok-pending.outbox (subst IsInLife c.self.view_is c.self.invariant) c.in_ok-pending.ensures.foreseen
