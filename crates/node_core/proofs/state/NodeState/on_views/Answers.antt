use Rattle.node_core.proofs.Attempting.{views_attempted}
use Rattle.node_core.proofs.state.NodeState.on_views.Goals as goal

pub returns : goal.returns
returns c =
    views_attempted c.args.from c.args.word c.args.message.now c.in_ok-message.message c.args.self.now c.step_views-attempt.result
    c.requires.views c.in_ok-message.ensures c.step_views-attempt.ensures
