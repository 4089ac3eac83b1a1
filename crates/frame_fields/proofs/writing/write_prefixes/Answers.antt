use Rattle.frame_fields.proofs.Written.{written_prefixes}
use Rattle.frame_fields.proofs.writing.write_prefixes.Goals as goal

pub returns : goal.returns
returns c = rw (c.in_ok-write_each_prefix.ensures, c.in_ok-write_u16.ensures, c.as_slice-2.ensures.value, c.as_slice.ensures.value) (written_prefixes _ c.args.p.now)
