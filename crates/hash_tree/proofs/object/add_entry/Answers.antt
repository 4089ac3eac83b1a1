use Rattle.std.proofs.Common.{subst}
use Rattle.hash_tree.specs.Hashing.{HasTaken}
use Rattle.frame_fields.proofs.Written.{written_entry}
use Rattle.hash_tree.proofs.object.add_entry.Goals as goal

pub returns : goal.returns
returns c m held =
    subst (HasTaken c.add_values.new.hasher)
    (rw (c.id.ensures, c.as_slice.ensures, c.to_be_bytes.ensures, c.count.ensures, c.as_slice-2.ensures, c.to_be_bytes-2.ensures, c.values.ensures, c.values-2.ensures) (written_entry m c.args.e.now))
    (c.add_values.ensures _ (c.add-2.ensures _ (c.add.ensures _ (c.add_writer.ensures m held))))
