use Rattle.std.proofs.Common.{length}
use Rattle.plumctl_draw.proofs.observer.next_line.Given as goal

abbrev pub decreases-loop-line : goal.decreases-loop-line
decreases-loop-line l = length l.lines
