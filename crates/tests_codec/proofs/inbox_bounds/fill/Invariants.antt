use Rattle.std.proofs.Common.{◌≡◌}
use Rattle.tests_codec.proofs.inbox_bounds.fill.Given as goal

abbrev pub invariant-loop-number : goal.invariant-loop-number
invariant-loop-number g l = l.pass.line ≡ l.inbox.line
