use Rattle.inbox.proofs.Moves.{takes, learns}
use Rattle.inbox.proofs.inbox.Inbox.take.Goals as goal

pub pop_as-requires-clause-rule : goal.pop_as-requires-clause-rule
pop_as-requires-clause-rule g c =
    (takes _ _ c.pass.invariant.1, learns _ _ c.pass.invariant.1)
