use Rattle.inbox.proofs.Moves.{begins}
use Rattle.inbox.proofs.inbox.Inbox.with_room.Goals as goal

pub ruled-requires-clause-rule : goal.ruled-requires-clause-rule
ruled-requires-clause-rule c = begins
