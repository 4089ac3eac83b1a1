use Rattle.frame_fields.proofs.Written.{written_vector}
use Rattle.frame_fields.proofs.writing.write_vector.Goals as goal

pub returns : goal.returns
returns c = rw (c.in_ok-write_counters.ensures, c.in_ok-write_u16.ensures, c.counters-2.ensures.value, c.counters.ensures.value) (written_vector _ c.args.v.now)
