use Rattle.std.proofs.Common.{◌∙◌, refl}
use Rattle.dvvset.specs.Object.{IsEntry}
use Rattle.dvvset.proofs.Rising.{Tested-next, Tested-end}
use Rattle.dvvset.proofs.Objects.{object_from_rest}
use Rattle.dvvset.proofs.entries.is_object.Goals as goal

pub loop-entry-preserved : goal.loop-entry-preserved
loop-entry-preserved c =
    Tested-next (λ e. e.id) IsEntry c.args.entries.now c.loop-entry.entry-index c.loop-entry.low c.number-id.result c.entry-item.result c.loop-entry.invariant c.loop-entry-test.true c.entry-item.is
    (c.number-id.ensures.value ∙ c.id.ensures) c.if-id-low.false (c.is_entry.ensures.0 c.if-not-is_entry.false)

pub returns : goal.returns
returns c = (
  (λ h. object_from_rest c.args.entries.now (Tested-end (λ e. e.id) IsEntry c.args.entries.now c.loop-entry.entry-index c.loop-entry.low c.loop-entry.invariant c.loop-entry-test.false)),
  (λ h. refl),
)
