use Rattle.std.proofs.Common.{◌<◌, length, arith}
use Rattle.plumctl_file.proofs.Pushed.{one_pushed}
use Rattle.plumctl_file.proofs.reading.push_pieces.Goals as goal

pub loop-preserved : goal.loop-preserved
loop-preserved g c = (
  one_pushed _ _ _ _ _ _ _ c.loop.invariant.0 c.in-Ok.ensures.bytes.0 c.in_ok-push-in-Ok.ensures.pushed c.in-Ok.ensures.sound,
  omega (arith, c.loop.invariant.1, c.read_some.auto.piece),
)
