use Rattle.std.proofs.Common.{◌≡◌, drop, ◌++◌}
use Rattle.dvvset.specs.Clock.{values_of}
use Rattle.dvvset.proofs.entries.values.Given as goal

abbrev pub invariant-loop-entry : goal.invariant-loop-entry
invariant-loop-entry l = l.values.items ++ values_of (drop l.entry-index l.entry-items) ≡ values_of l.entry-items
