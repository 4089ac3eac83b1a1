use Rattle.std.specs.List.{flat_map}
use Rattle.std.proofs.Common.{◌+◌, take}
use Rattle.frame_fields.specs.Field.{entry}
use Rattle.hash_tree.proofs.Steps.{adds_both, one_more}
use Rattle.hash_tree.proofs.object.add_entries.Goals as goal

pub loop-entry-preserved : goal.loop-entry-preserved
loop-entry-preserved c =
    let f = (entry 0).spell in
    adds_both c.args.hasher.now c.loop-entry.hasher c.add_entry.new.hasher (flat_map f (take c.loop-entry.entry-index c.args.entries.now)) (f c.entry-item.result)
    (flat_map f (take (c.loop-entry.entry-index + 1) c.args.entries.now))
    c.loop-entry.invariant c.add_entry.ensures
    (one_more f c.args.entries.now c.loop-entry.entry-index c.entry-item.result c.loop-entry-test.true c.entry-item.is)
