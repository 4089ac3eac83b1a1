use Rattle.std.proofs.Common.{length, ◌-◌, ◌+◌}
use Rattle.dvvset.proofs.Merging.{Merging}
use Rattle.dvvset.proofs.merge.merge.Given as goal

abbrev pub invariant-loop-i : goal.invariant-loop-i
invariant-loop-i l = Merging l.merged.items l.xs l.ys l.i l.j

abbrev pub decreases-loop-i : goal.decreases-loop-i
decreases-loop-i l = (length l.xs - l.i) + (length l.ys - l.j)
