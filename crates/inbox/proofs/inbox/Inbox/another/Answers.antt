use Rattle.inbox.proofs.Moves.{forks}
use Rattle.inbox.proofs.inbox.Inbox.another.Goals as goal

pub another-pass-requires-clause-rule : goal.another-pass-requires-clause-rule
another-pass-requires-clause-rule c = forks _ _ c.takes.invariant.1
