use Rattle.streams.proofs.Sent.{sent_on, positive}
use Rattle.streams.proofs.sink.write_whole.Goals as goal

pub loop-rest-preserved : goal.loop-rest-preserved
loop-rest-preserved g c = (
  sent_on _ _ _ _ _ c.in-Ok.n c.loop-rest.invariant.0 c.in-Ok.ensures.bytes,
  λ kind failed. c.loop-rest.invariant.1 kind (c.in-Ok.ensures.sound (positive c.in-Ok.n c.in-Ok.n-test.1) kind failed),
)
