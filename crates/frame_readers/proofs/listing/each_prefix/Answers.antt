use Rattle.std.proofs.lemmas.Result.{err_from_is_err_and}
use Rattle.frame_fields.specs.Field.{lowest, prefix_of}
use Rattle.frame_readers.specs.Reader.{prefix_row_reader, each_reader}
use Rattle.frame_readers.proofs.Loops.{goes_on, ends, is_done}
use Rattle.frame_readers.proofs.listing.each_prefix.Goals as goal

pub returns-in_err-row : goal.returns-in_err-row
returns-in_err-row c =
    let p = err_from_is_err_and c.from_residual-in_err-row.result c.from_residual-in_err-row.ensures.1 in
    rw (p.1, p.2) (ends prefix_row_reader prefix_of c.in_err-row.field-0.0 c.loop.rows.items c.args.len c.loop.counter (record { prefix = c.loop.low.now; sub = c.loop.low_sub.now }) c.loop.rest.now (each_reader prefix_row_reader prefix_of lowest c.args.len c.args.bytes.now) c.loop-test.true c.in_err-row.ensures.value c.loop.invariant)

pub loop-preserved : goal.loop-preserved
loop-preserved c =
    rw (c.in_ok-push.ensures.items, ← c.in_ok-row.ensures.parts)
    (goes_on prefix_row_reader prefix_of c.loop.rows.items c.args.len c.loop.counter (record { prefix = c.loop.low.now; sub = c.loop.low_sub.now }) c.loop.rest.now c.in_ok-row.row c.in_ok-row.after.now (each_reader prefix_row_reader prefix_of lowest c.args.len c.args.bytes.now) c.loop-test.true c.in_ok-row.ensures.value c.loop.invariant)

pub returns : goal.returns
returns c = is_done prefix_row_reader prefix_of c.loop.rows.items c.args.len c.loop.counter (record { prefix = c.loop.low.now; sub = c.loop.low_sub.now }) c.loop.rest.now (each_reader prefix_row_reader prefix_of lowest c.args.len c.args.bytes.now) c.loop-test.false c.loop.invariant
