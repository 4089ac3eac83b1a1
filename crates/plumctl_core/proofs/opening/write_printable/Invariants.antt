use Rattle.std.proofs.Common.{take, Ok}
use Rattle.plumctl_core.specs.Opening.{shown_text, WritesText}
use Rattle.plumctl_core.proofs.opening.write_printable.Given as goal

abbrev pub invariant-loop-byte : goal.invariant-loop-byte
invariant-loop-byte g l =
    WritesText (g.W.Sink.at l.fn.writer) (g.W.Sink.at l.writer) (shown_text (take l.byte-index l.bytes)) (Ok tt)
