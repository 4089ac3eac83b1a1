use Rattle.std.proofs.Common.{◌≡◌}
use Rattle.tests_codec.proofs.inbox_crowd.put_at_last.Given as goal

abbrev pub invariant-loop : goal.invariant-loop
invariant-loop g l = l.pass.line ≡ l.inbox.line
