use Rattle.std.proofs.Common.{◌≡◌, [], take}
use Rattle.dvvset.specs.Clock.{values_of}
use Rattle.dvvset.proofs.entries.show_a_value.Given as goal

abbrev pub invariant-loop-entry : goal.invariant-loop-entry
invariant-loop-entry l = values_of (take l.entry-index l.entries) ≡ []
