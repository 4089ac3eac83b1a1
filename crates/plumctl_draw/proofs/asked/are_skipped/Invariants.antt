use Rattle.std.proofs.Common.{◌≡◌}
use Rattle.plumctl_draw.specs.Asked.{are_skipped}
use Rattle.plumctl_draw.proofs.asked.are_skipped.Given as goal

abbrev pub invariant-loop-left : goal.invariant-loop-left
invariant-loop-left l = are_skipped l.fn.count l.fn.lines ≡ are_skipped l.left l.lines

abbrev pub decreases-loop-left : goal.decreases-loop-left
decreases-loop-left l = l.left
