use Rattle.frame_fields.proofs.Written.{written_digests}
use Rattle.frame_fields.proofs.writing.write_digests.Goals as goal

pub returns : goal.returns
returns c = rw (c.in_ok-write_each_digest.ensures, c.as_slice.ensures.value) (written_digests _ c.args.d.now)
