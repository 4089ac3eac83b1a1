use Rattle.std.proofs.Common.{◌≡◌}
use Rattle.plumctl_draw.specs.Asked.{lines_behind}
use Rattle.plumctl_draw.proofs.asked.pass.Given as goal

abbrev pub invariant-loop-left : goal.invariant-loop-left
invariant-loop-left l = lines_behind l.fn.count l.fn.lines ≡ lines_behind l.left l.lines

abbrev pub decreases-loop-left : goal.decreases-loop-left
decreases-loop-left l = l.left
