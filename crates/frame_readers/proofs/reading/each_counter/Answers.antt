use Rattle.std.proofs.Common.{arith}
use Rattle.meta_types.specs.Actor.{writer_number}
use Rattle.std.proofs.lemmas.Result.{err_from_is_err_and}
use Rattle.frame_fields.specs.Field.{above_counter}
use Rattle.frame_readers.specs.Reader.{counter_reader, each_reader}
use Rattle.frame_readers.proofs.Loops.{goes_on, ends, is_done}
use Rattle.frame_readers.proofs.reading.each_counter.Goals as goal

pub returns-in_err-node : goal.returns-in_err-node
returns-in_err-node c =
    let p = err_from_is_err_and c.from_residual-in_err-node.result c.from_residual-in_err-node.ensures.1 in
    rw (p.1, p.2) (ends counter_reader above_counter c.in_err-node.field-0.0 c.loop.counters.items c.args.len c.loop.counter c.loop.low c.loop.rest.now (each_reader counter_reader above_counter 0 c.args.len c.args.bytes.now) c.loop-test.true c.in_err-node.ensures.value c.loop.invariant.0)

pub loop-preserved : goal.loop-preserved
loop-preserved c =
    let id = writer_number c.in_ok-node.node c.in_ok-node.incarnation in (
      rw (c.in_ok-push.ensures.items, c.new.ensures, c.number-low.ensures.value, c.writer_from-writer.ensures)
          (goes_on counter_reader above_counter c.loop.counters.items c.args.len c.loop.counter c.loop.low c.loop.rest.now (record { id = id; count = c.in_ok-node.count }) c.in_ok-node.after.now (each_reader counter_reader above_counter 0 c.args.len c.args.bytes.now) c.loop-test.true c.in_ok-node.ensures.value c.loop.invariant.0),
      omega (arith, c.number-low.ensures.in_range),
    )

pub returns : goal.returns
returns c = is_done counter_reader above_counter c.loop.counters.items c.args.len c.loop.counter c.loop.low c.loop.rest.now (each_reader counter_reader above_counter 0 c.args.len c.args.bytes.now) c.loop-test.false c.loop.invariant.0
