use Rattle.node_core.proofs.RollingBack.{can_still, rolled_alike}
use Rattle.node_core.proofs.state.NodeState.step_since.Goals as goal

pub returns-in-Ok-clause-can : goal.returns-in-Ok-clause-can
returns-in-Ok-clause-can c =
    let a = c.in_ok-attempt.attempt in
    rw (c.in-Ok.ensures.noted, c.commit.ensures.node)
    (can_still c.args.savepoint.now a c.args.event.now c.args.self.now c.attempt.new.self c.in_ok-attempt.ensures.attempt c.requires)

pub returns-in-Ok-clause-back : goal.returns-in-Ok-clause-back
returns-in-Ok-clause-back c =
    let a = c.in_ok-attempt.attempt in
    rw (c.in-Ok.ensures.noted, c.commit.ensures.node)
    (rolled_alike c.args.savepoint.now a c.args.event.now c.args.self.now c.attempt.new.self c.in_ok-attempt.ensures.attempt)
