use Rattle.std.proofs.Common.{◌≡◌, drop}
use Rattle.dvvset.specs.Clock.{same}
use Rattle.dvvset.proofs.compare.are_same.Given as goal

abbrev pub invariant-loop-i : goal.invariant-loop-i
invariant-loop-i l = same (drop l.i l.a) (drop l.i l.b) ≡ same l.a l.b
