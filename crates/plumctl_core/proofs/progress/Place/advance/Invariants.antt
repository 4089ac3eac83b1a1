use Rattle.std.proofs.Common.{length}
use Rattle.plumctl_core.proofs.progress.Place.advance.Given as goal

abbrev pub decreases-loop-line : goal.decreases-loop-line
decreases-loop-line g l = length l.self.lines
