use Rattle.frame_fields.specs.Field.{entry}
use Rattle.frame_fields.proofs.Written.{one_more}
use Rattle.frame_fields.proofs.writing.write_entries.Goals as goal

pub loop-entry-preserved : goal.loop-entry-preserved
loop-entry-preserved c =
    one_more (entry 0).spell c.args.entries.now c.loop-entry.entry-index c.entry-item.result _ _ _ c.loop-entry-test.true c.entry-item.is c.loop-entry.invariant c.in_ok-write_entry.ensures
