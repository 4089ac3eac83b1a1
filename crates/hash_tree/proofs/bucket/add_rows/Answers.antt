use Rattle.std.proofs.Common.{◌+◌, ◌++◌, map, refl, take}
use Rattle.frame_fields.specs.Field.{key_row_parts, name}
use Rattle.hash_tree.specs.Tree.{text_of}
use Rattle.hash_tree.proofs.ByPlace.{text_more}
use Rattle.hash_tree.proofs.Steps.{adds_both, adds_none}
use Rattle.hash_tree.proofs.bucket.add_rows.Goals as goal

pub loop-row-init : goal.loop-row-init
unfolding text_of
loop-row-init c = adds_none c.args.hasher.now

pub loop-row-preserved : goal.loop-row-preserved
loop-row-preserved c =
    let row = c.row-item.result in
    adds_both c.args.hasher.now c.loop-row.hasher c.add.new.self
    (text_of (map key_row_parts (take c.loop-row.row-index c.args.rows.now))) ((name 1 256).spell row.key ++ row.digest) (text_of (map key_row_parts (take (c.loop-row.row-index + 1) c.args.rows.now)))
    c.loop-row.invariant
    (adds_both c.loop-row.hasher c.add_name.new.hasher c.add.new.self ((name 0 65535).spell c.as_slice.result.now) c.bytes.result.now ((name 1 256).spell row.key ++ row.digest) c.add_name.ensures c.add.ensures (rw (c.as_slice.ensures, c.bytes.ensures.value) refl))
    (text_more c.args.rows.now c.loop-row.row-index row c.loop-row-test.true c.row-item.is)
