use Rattle.std.proofs.Common.{◌≡◌, not, false, ap, sym, ◌∙◌}
use Rattle.dvvset.specs.Clock.{join, descends}
use Rattle.meta_store.specs.Table.{is_stale}
use Rattle.meta_store.specs.Step.{refusal_of_merge, refusal_of_sync}
use Rattle.meta_store.specs.declared.fault.StoreFault.TheVariants.{Memory}
use Rattle.meta_store.proofs.Merging.{refusal_of_fresh}
use Rattle.meta_store.proofs.Writing.{fault_passed}
use Rattle.meta_store.proofs.store.Store.preview_merge.Goals as goal

pub returns-in_err-synced-clause-fault : goal.returns-in_err-synced-clause-fault
returns-in_err-synced-clause-fault c =
    let held = c.held_or-has_room.result.0.now in
    let room = c.held_or-has_room.result.1 in
    let fresh : is_stale c.args.self.now c.args.key.now (join c.args.came.now) ≡ false =
    ap (λ h. descends (join h) (join c.args.came.now)) (sym c.held_or-has_room.ensures.object) ∙ sym c.knows.ensures ∙ c.if-knows.false in
    fault_passed c.from_residual.result Memory _
    (refusal_of_sync held c.args.came.now (not room))
    (refusal_of_merge c.args.self.now c.args.key.now c.args.came.now)
    (refusal_of_fresh c.args.self.now c.args.key.now held c.args.came.now (not room) c.held_or-has_room.ensures.object c.held_or-has_room.ensures.room fresh)
    c.in_err-synced.ensures.fault c.from_residual.ensures.1
