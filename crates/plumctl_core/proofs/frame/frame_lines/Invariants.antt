use Rattle.std.proofs.Common.{◌+◌, length}
use Rattle.std.specs.Option.{option_copied}
use Rattle.streams.specs.Fault.{FailsNoMore}
use Rattle.plumctl_core.proofs.Going.{Going}
use Rattle.plumctl_core.proofs.frame.frame_lines.Given as goal

abbrev pub invariant-loop-text : goal.invariant-loop-text
invariant-loop-text g l =
    Going (option_copied l.fn.keys) (g.R.Source.at l.fn.reader) (g.R.Source.at l.reader) (g.W.Sink.at l.fn.writer) (g.W.Sink.at l.writer) l.lines l.all
    × ((g.R.Source.at l.reader).failed → (g.R.Source.at l.fn.reader).failed)
    × FailsNoMore (g.W.Sink.at l.fn.writer).failed (g.W.Sink.at l.writer).failed

abbrev pub decreases-loop-text : goal.decreases-loop-text
decreases-loop-text g l = l.lines.left + length l.lines.bytes
