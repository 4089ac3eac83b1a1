use Rattle.std.proofs.Common.{length}
use Rattle.streams.specs.Fault.{FailsNoMore}
use Rattle.streams.proofs.Sent.{Sent}
use Rattle.streams.proofs.sink.write_whole.Given as goal

abbrev pub invariant-loop-rest : goal.invariant-loop-rest
invariant-loop-rest g l =
    Sent (g.W.Sink.at l.fn.writer).contents (g.W.Sink.at l.writer).contents l.bytes l.rest
    × FailsNoMore (g.W.Sink.at l.fn.writer).failed (g.W.Sink.at l.writer).failed

abbrev pub decreases-loop-rest : goal.decreases-loop-rest
decreases-loop-rest g l = length l.rest
