use Rattle.std.proofs.Common.{◌≡◌, drop, ◌++◌}
use Rattle.dvvset.specs.Clock.{blanks}
use Rattle.dvvset.proofs.write.blanks.Given as goal

abbrev pub invariant-loop-counter : goal.invariant-loop-counter
invariant-loop-counter l = l.entries.items ++ blanks (drop l.counter-index l.counters) ≡ blanks l.counters
