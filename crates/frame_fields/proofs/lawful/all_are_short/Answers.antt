use Rattle.std.proofs.Common.{◌≡◌, subst, sym, ap, refl, length, arith}
use Rattle.std.proofs.lemmas.List.{take_all}
use Rattle.std.proofs.lemmas.List.Elements.{All-more, All-same}
use Rattle.frame_fields.specs.Size.{IsShort}
use Rattle.frame_fields.proofs.lawful.all_are_short.Goals as goal

pub loop-entry-preserved : goal.loop-entry-preserved
loop-entry-preserved c =
    All-more IsShort c.args.entries.now c.loop-entry.entry-index c.entry-item.result c.loop-entry-test.true c.loop-entry.invariant
    (subst IsShort c.entry-item.is (let same : length c.values.result.now ≡ length c.entry-item.result.values = ap length c.values.ensures in omega arith))

pub returns : goal.returns
returns c = (
  (λ h. All-same IsShort c.args.entries.now _ (sym (take_all c.loop-entry.entry-index c.args.entries.now c.loop-entry-test.false)) c.loop-entry.invariant),
  (λ h. refl),
)
