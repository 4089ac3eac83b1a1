use Rattle.sealed_frames.proofs.Differing.{bits_more}
use Rattle.sealed_frames.proofs.sealing.difference.Goals as goal

pub loop-place-preserved : goal.loop-place-preserved
loop-place-preserved c =
    bits_more c.args.one.now c.args.other.now c.loop-place.bits c.loop-place.place c.loop-place-test.true c.requires c.loop-place.invariant
