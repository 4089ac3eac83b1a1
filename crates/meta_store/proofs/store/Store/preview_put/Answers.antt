use Rattle.std.proofs.Common.{subst}
use Rattle.meta_types.specs.Failing.{FailsBy}
use Rattle.meta_store.specs.declared.fault.StoreFault.TheVariants.{Memory}
use Rattle.std.specs.Option.{option_copied}
use Rattle.std.proofs.Common.{◌≡◌, false, sym, ◌∙◌}
use Rattle.meta_store.specs.Step.{is_full_for}
use Rattle.meta_store.proofs.Writing.{refusal_by_object}
use Rattle.meta_store.proofs.store.Store.preview_put.Goals as goal

pub returns-clause-fault : goal.returns-clause-fault
returns-clause-fault c =
    let room : is_full_for c.args.self.now c.args.key.now ≡ false = c.has_room_for.ensures.0 c.if-not-has_room_for.false in
    subst (λ refusal. FailsBy Memory refusal c.written.result)
    (refusal_by_object c.args.self.now c.args.id c.args.key.now c.args.value (option_copied c.args.context) c.vector_read-read.result.now c.object_or.result.now
    (sym c.is_of_another_key.ensures ∙ c.if-is_of_another_key.false) room c.vector_read-read.ensures c.object_or.ensures)
    c.written.ensures.fault
