use Rattle.std.proofs.Common.{length}
use Rattle.plumctl_core.proofs.progress.count_lines.Given as goal

abbrev pub decreases-loop-lines : goal.decreases-loop-lines
decreases-loop-lines l = length l.lines
