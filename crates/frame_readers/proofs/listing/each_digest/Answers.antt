use Rattle.std.proofs.lemmas.Result.{err_from_is_err_and}
use Rattle.frame_fields.specs.Field.{no_state, forget}
use Rattle.frame_readers.specs.Reader.{digest_reader, digests_reader, each_reader}
use Rattle.frame_readers.proofs.Loops.{goes_on, ends, is_done}
use Rattle.frame_readers.proofs.listing.each_digest.Goals as goal

pub returns-in_err-digest : goal.returns-in_err-digest
unfolding digests_reader
returns-in_err-digest c =
    let p = err_from_is_err_and c.from_residual-in_err-digest.result c.from_residual-in_err-digest.ensures.1 in
    rw (p.1, p.2) (ends (λ _. digest_reader) forget c.in_err-digest.field-0.0 c.loop.digests.items 16 c.loop.counter no_state c.loop.rest.now (each_reader (λ _. digest_reader) forget no_state 16 c.args.bytes.now) c.loop-test.true c.in_err-digest.ensures.value c.loop.invariant)

pub loop-preserved : goal.loop-preserved
unfolding digests_reader
loop-preserved c =
    rw (c.in_ok-push.ensures.items, c.new.ensures)
    (goes_on (λ _. digest_reader) forget c.loop.digests.items 16 c.loop.counter no_state c.loop.rest.now c.in_ok-digest.digest c.in_ok-digest.after.now (each_reader (λ _. digest_reader) forget no_state 16 c.args.bytes.now) c.loop-test.true c.in_ok-digest.ensures.value c.loop.invariant)

pub returns : goal.returns
unfolding digests_reader
returns c = is_done (λ _. digest_reader) forget c.loop.digests.items 16 c.loop.counter no_state c.loop.rest.now (each_reader (λ _. digest_reader) forget no_state 16 c.args.bytes.now) c.loop-test.false c.loop.invariant
