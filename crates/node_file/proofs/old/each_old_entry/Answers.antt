use Rattle.std.proofs.Common.{arith}
use Rattle.std.proofs.lemmas.Result.{err_from_is_err_and}
use Rattle.frame_fields.specs.Field.{above_entry}
use Rattle.frame_readers.specs.Reader.{each_reader}
use Rattle.node_file.specs.Old.{old_entry_reader}
use Rattle.frame_readers.proofs.Loops.{goes_on, ends, is_done}
use Rattle.node_file.proofs.old.each_old_entry.Goals as goal

pub returns-in_err-entry : goal.returns-in_err-entry
returns-in_err-entry c =
    let p = err_from_is_err_and c.from_residual.result c.from_residual.ensures.1 in
    rw (p.1, p.2) (ends old_entry_reader above_entry c.in_err-entry.field-0.0 c.loop.entries.items c.args.len c.loop.counter c.loop.low c.loop.rest.now (each_reader old_entry_reader above_entry 0 c.args.len c.args.bytes.now) c.loop-test.true c.in_err-entry.ensures c.loop.invariant.0)

pub loop-preserved : goal.loop-preserved
loop-preserved c = (
  rw (c.in_ok-push.ensures.items, c.number-low.ensures.value, c.id.ensures) (goes_on old_entry_reader above_entry c.loop.entries.items c.args.len c.loop.counter c.loop.low c.loop.rest.now c.in_ok-entry.entry c.in_ok-entry.after.now (each_reader old_entry_reader above_entry 0 c.args.len c.args.bytes.now) c.loop-test.true c.in_ok-entry.ensures c.loop.invariant.0),
  omega (arith, c.number-low.ensures.in_range),
)

pub returns : goal.returns
returns c = is_done old_entry_reader above_entry c.loop.entries.items c.args.len c.loop.counter c.loop.low c.loop.rest.now (each_reader old_entry_reader above_entry 0 c.args.len c.args.bytes.now) c.loop-test.false c.loop.invariant.0
