use Rattle.std.proofs.Common.{◌≡◌}
use Rattle.tests_codec.proofs.inbox_crowd.hand_back_all.Given as goal

abbrev pub invariant-loop-pass : goal.invariant-loop-pass
invariant-loop-pass l = (l.takes.line ≡ l.inbox.line)
    × goal.iterator-loop-pass.can_next l.pass-iterator
    × goal.iterator-loop-pass.is_finite l.pass-iterator
