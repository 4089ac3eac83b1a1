use Rattle.std.proofs.Common.{◌≡◌, drop, ◌++◌}
use Rattle.dvvset.specs.Clock.{join}
use Rattle.dvvset.proofs.vector.counters_of.Given as goal

abbrev pub invariant-loop-entry : goal.invariant-loop-entry
invariant-loop-entry l = l.counters.items ++ join (drop l.entry-index l.entries) ≡ join l.entries
