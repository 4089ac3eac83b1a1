use Rattle.std.proofs.Common.{◌+◌, length}
use Rattle.streams.proofs.Taking.{Taking}
use Rattle.streams.proofs.line.LineBuffer.next_line.Given as goal

abbrev pub invariant-loop-self : goal.invariant-loop-self
invariant-loop-self g l =
    Taking l.fn.self l.self (g.R.Source.at l.fn.reader).remaining (g.R.Source.at l.reader).remaining l.line.items
    × ((g.R.Source.at l.reader).failed → (g.R.Source.at l.fn.reader).failed)

abbrev pub decreases-loop-self : goal.decreases-loop-self
decreases-loop-self g l = l.self.left + length l.self.bytes
