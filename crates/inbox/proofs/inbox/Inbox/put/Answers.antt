use Rattle.std.proofs.Common.{sym}
use Rattle.inbox.proofs.Moves.{puts, learns_puts}
use Rattle.inbox.proofs.inbox.Inbox.put.Goals as goal

pub push_as-requires-clause-rule : goal.push_as-requires-clause-rule
push_as-requires-clause-rule g c =
    (puts _ _ _ _ c.pass.invariant.1 (sym c.pass.invariant.2), learns_puts _ _ c.pass.invariant.1)
