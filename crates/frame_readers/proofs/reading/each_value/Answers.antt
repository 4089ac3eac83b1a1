use Rattle.std.proofs.lemmas.Result.{err_from_is_err_and}
use Rattle.frame_fields.specs.Field.{no_state, forget}
use Rattle.frame_readers.specs.Reader.{value_reader, each_reader}
use Rattle.frame_readers.proofs.Loops.{goes_on, ends, is_done}
use Rattle.frame_readers.proofs.reading.each_value.Goals as goal

pub returns-in_err-value : goal.returns-in_err-value
returns-in_err-value c =
    let p = err_from_is_err_and c.from_residual-in_err-value.result c.from_residual-in_err-value.ensures.1 in
    rw (p.1, p.2) (ends (λ _. value_reader) forget c.in_err-value.field-0.0 c.loop.values.items c.args.len c.loop.counter no_state c.loop.rest.now (each_reader (λ _. value_reader) forget no_state c.args.len c.args.bytes.now) c.loop-test.true c.in_err-value.ensures c.loop.invariant)

pub loop-preserved : goal.loop-preserved
loop-preserved c =
    rw c.in_ok-push.ensures.items (goes_on (λ _. value_reader) forget c.loop.values.items c.args.len c.loop.counter no_state c.loop.rest.now c.in_ok-value.value c.in_ok-value.after.now (each_reader (λ _. value_reader) forget no_state c.args.len c.args.bytes.now) c.loop-test.true c.in_ok-value.ensures c.loop.invariant)

pub returns : goal.returns
returns c = is_done (λ _. value_reader) forget c.loop.values.items c.args.len c.loop.counter no_state c.loop.rest.now (each_reader (λ _. value_reader) forget no_state c.args.len c.args.bytes.now) c.loop-test.false c.loop.invariant
