use Rattle.frame_fields.proofs.Written.{written_entry}
use Rattle.frame_fields.proofs.writing.write_entry.Goals as goal

pub returns : goal.returns
returns c =
    rw (c.in_ok-write_values.ensures, c.in_ok-write_u16.ensures, c.in_ok-write_u64.ensures, c.in_ok-write_writer.ensures, c.values-2.ensures, c.values.ensures, c.count.ensures, c.id.ensures)
    (written_entry _ c.args.e.now)
