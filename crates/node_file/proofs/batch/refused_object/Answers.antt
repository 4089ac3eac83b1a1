use Rattle.std.proofs.Common.{◌≡◌, ◌+◌, ◌∙◌, Some, None, ap, ap₂, arith, false, length, rules, sym}
use Rattle.node_file.specs.Clean.{row_record}
use Rattle.node_file.specs.File.{record_size}
use Rattle.node_file.specs.Record.{payload}
use Rattle.node_file.specs.Refusal.{refusal_of_append}
use Rattle.node_file.proofs.Batches.{is_passed, is_refused, none_refused}
use Rattle.node_file.proofs.batch.refused_object.Goals as goal

pub returns-in-Some-clause-first : goal.returns-in-Some-clause-first
returns-in-Some-clause-first c =
    let row = c.index-objects-place.result in
    let end = c.loop-place.end in
    let is : refusal_of_append false end row.0 row.1 ≡ Some c.in-Some.fault =
    ap₂ (refusal_of_append false end) (sym c.key.ensures) (sym c.object.ensures.value) ∙ sym c.refusal_of.ensures.first ∙ c.in-Some.is in
    sym (is_refused c.args.gate c.args.objects.now c.loop-place.place end c.loop-place.invariant row c.loop-place-test.true (sym c.index-objects-place.is) c.in-Some.fault is)

pub loop-place-preserved : goal.loop-place-preserved
unfolding record_size
loop-place-preserved c =
    let row = c.index-objects-place.result in
    let end = c.loop-place.end in
    let none : refusal_of_append false end row.0 row.1 ≡ None =
    ap₂ (refusal_of_append false end) (sym c.key.ensures) (sym c.object.ensures.value) ∙ sym c.refusal_of.ensures.first ∙ c.in_default.is in
    let size : length (payload (row_record row)) ≡ c.payload_len.result = ap (λ r. length (payload r)) (sym c.record.ensures) ∙ sym c.payload_len.ensures.value in
    is_passed c.args.gate c.args.objects.now c.loop-place.place end c.loop-place.invariant row c.loop-place-test.true (sym c.index-objects-place.is)
    (end + (c.payload_len.result + 37)) none (search rules) (omega (arith, size))

pub returns-clause-first : goal.returns-clause-first
returns-clause-first c =
    sym (none_refused c.args.gate c.args.objects.now c.loop-place.place c.loop-place.end c.loop-place.invariant (omega (arith, c.loop-place-test.false, c.loop-place.auto.place-end)))
