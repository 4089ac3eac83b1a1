use Rattle.std.proofs.Common.{◌≡◌, [], false, sym, ap, ◌∙◌}
use Rattle.std.specs.Option.{option_copied}
use Rattle.meta_store.specs.Step.{is_full_for, refusal_of_put, refusal_of_update}
use Rattle.meta_store.specs.declared.fault.StoreFault.TheVariants.{Memory}
use Rattle.meta_store.specs.Table.{object_at}
use Rattle.meta_store.proofs.Writing.{fault_passed, refusal_by_object, when_some}
use Rattle.meta_store.proofs.store.Store.put_or_make.Goals as goal

pub returns-in_err-object-clause-fault : goal.returns-in_err-object-clause-fault
returns-in_err-object-clause-fault c =
    let left : (c.in-Some.value ≡ c.args.value) × ((object_at c.args.self.now c.args.key.now ≡ []) × (c.put_held.new.self ≡ c.args.self.now)) =
    when_some (λ back. (back ≡ c.args.value) × ((object_at c.args.self.now c.args.key.now ≡ []) × (c.put_held.new.self ≡ c.args.self.now))) c.in_ok-value.field-0 c.in-Some.value c.in-Some.is c.in_ok-value.ensures.left in
    let context = option_copied c.args.context in
    let read = c.vector_read-vector.result.now in
    let absent = c.empty-absent.result in
    let room : is_full_for c.args.self.now c.args.key.now ≡ false = sym (ap (λ table. is_full_for table c.args.key.now) left.1.1) ∙ c.has_room_for.ensures.0 c.if-not-has_room_for.false in
    fault_passed c.from_residual-in_err-object.result Memory _
    (refusal_of_update read absent c.args.id c.in-Some.value)
    (refusal_of_put c.args.self.now c.args.id c.args.key.now c.args.value context)
    (ap (refusal_of_update read absent c.args.id) left.0
    ∙ refusal_by_object c.args.self.now c.args.id c.args.key.now c.args.value context read absent
    (sym c.is_of_another_key.ensures ∙ c.if-is_of_another_key.false) room c.vector_read-vector.ensures (c.empty-absent.ensures ∙ sym left.1.0))
    c.in_err-object.ensures.fault c.from_residual-in_err-object.ensures.1
