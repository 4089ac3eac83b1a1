use Rattle.std.proofs.Common.{ap, Ok}
use Rattle.meta_frame.proofs.Headers.{header_at_front}
use Rattle.meta_frame.proofs.header.read_header.Goals as goal

pub returns-clause-of_frame : goal.returns-clause-of_frame
returns-clause-of_frame c frame front rest split spells = ap (λ h. Ok h) (header_at_front c.args.bytes.now c.header_at.result c.header_at.ensures frame front rest split spells)
