use Rattle.std.proofs.Common.{refl, ◌∙◌}
use Rattle.dvvset.proofs.Showing.{shows_at, not_none}
use Rattle.dvvset.proofs.entries.show_a_value.Goals as goal

pub returns-then-not-is_empty : goal.returns-then-not-is_empty
returns-then-not-is_empty c = (
  λ _. shows_at c.args.entries.now c.loop-entry.entry-index c.entry-item.result c.loop-entry-test.true c.entry-item.is
      (λ none. not_none c.values.result.now (c.values.ensures ∙ none) c.if-not-is_empty.ensures),
  λ _. refl,
)
