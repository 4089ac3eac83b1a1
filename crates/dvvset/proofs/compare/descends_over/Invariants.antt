use Rattle.std.proofs.Common.{length, map, ◌-◌}
use Rattle.dvvset.proofs.Descending.{Descending}
use Rattle.dvvset.proofs.compare.descends_over.Given as goal

abbrev pub invariant-loop-j : goal.invariant-loop-j
invariant-loop-j g l = Descending (map g.A.Counts.counter l.a) (map g.B.Counts.counter l.b) l.i l.j

abbrev pub decreases-loop-j : goal.decreases-loop-j
decreases-loop-j g l = length l.a - l.i
