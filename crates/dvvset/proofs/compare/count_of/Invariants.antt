use Rattle.std.proofs.Common.{◌≡◌, drop}
use Rattle.dvvset.specs.Writer.{count_of}
use Rattle.dvvset.proofs.compare.count_of.Given as goal

abbrev pub invariant-loop-entry : goal.invariant-loop-entry
invariant-loop-entry l = count_of l.entries l.id ≡ count_of (drop l.entry-index l.entries) l.id
