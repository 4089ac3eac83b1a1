use Rattle.std.proofs.Common.{refl}
use Rattle.streams.proofs.line.LineBuffer.new.Goals as goal

pub returns : goal.returns
returns c = refl
