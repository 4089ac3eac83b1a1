use Rattle.std.proofs.Common.{subst}
use Rattle.node_core.specs.Node.{IsInLife}
use Rattle.node_core.proofs.Casting.{asked}
use Rattle.node_core.proofs.state.NodeState.on_question.Goals as goal

pub returns : goal.returns
returns c =
    asked c.args.from c.args.message.now c.args.self.now c.in_ok-sent.sent.items c.in_ok-outbox.outbox (subst IsInLife c.self.view_is c.self.invariant)
    c.requires.question c.in_ok-sent.ensures.sent c.in_ok-outbox.ensures.frames c.in_ok-outbox.ensures.lawful
