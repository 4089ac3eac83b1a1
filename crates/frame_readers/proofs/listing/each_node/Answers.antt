use Rattle.std.proofs.lemmas.Result.{err_from_is_err_and}
use Rattle.frame_fields.specs.Field.{no_state, forget}
use Rattle.frame_readers.specs.Reader.{node_reader, each_reader}
use Rattle.frame_readers.proofs.Loops.{goes_on, ends, is_done}
use Rattle.frame_readers.proofs.listing.each_node.Goals as goal

pub returns-in_err-number : goal.returns-in_err-number
returns-in_err-number c =
    let p = err_from_is_err_and c.from_residual-in_err-number.result c.from_residual-in_err-number.ensures.1 in
    rw (p.1, p.2) (ends (λ _. node_reader) forget c.in_err-number.field-0.0 c.loop.nodes.items c.args.len c.loop.counter no_state c.loop.rest.now (each_reader (λ _. node_reader) forget no_state c.args.len c.args.bytes.now) c.loop-test.true c.in_err-number.ensures.value c.loop.invariant)

pub loop-preserved : goal.loop-preserved
loop-preserved c =
    rw (c.in_ok-push.ensures.items, c.node_from.ensures)
    (goes_on (λ _. node_reader) forget c.loop.nodes.items c.args.len c.loop.counter no_state c.loop.rest.now c.in_ok-number.number c.in_ok-number.after.now (each_reader (λ _. node_reader) forget no_state c.args.len c.args.bytes.now) c.loop-test.true c.in_ok-number.ensures.value c.loop.invariant)

pub returns : goal.returns
returns c = is_done (λ _. node_reader) forget c.loop.nodes.items c.args.len c.loop.counter no_state c.loop.rest.now (each_reader (λ _. node_reader) forget no_state c.args.len c.args.bytes.now) c.loop-test.false c.loop.invariant
