use Rattle.std.proofs.Common.{sym, ap, subst, is_some, ◌∙◌}
use Rattle.std.specs.Bool.{passes}
use Rattle.std.specs.FinMap.{is_sorted}
use Rattle.meta_types.specs.Order.{bytes_cmp}
use Rattle.meta_store.specs.Kept.{AreRows}
use Rattle.meta_store.proofs.Forgetting.{removed, rows_without}
use Rattle.meta_store.proofs.Kept.{bytes_total}
use Rattle.meta_store.proofs.Maps.{looked_up}
use Rattle.meta_store.proofs.rows.Rows.forget.Goals as goal

pub invariant_of-self : goal.invariant_of-self
invariant_of-self c =
    let before = c.self.inside.by_key.entries in
    subst AreRows
    (sym (c.remove.ensures.entries ∙ removed bytes_cmp bytes_total c.args.key.now before (passes (is_sorted bytes_cmp before) c.self.invariant.rising)))
    (rows_without c.args.key.now before c.self.invariant)

pub returns-clause-value : goal.returns-clause-value
returns-clause-value c =
    let before = c.self.inside.by_key.entries in
    rw (← c.self.view_is) (c.remove.ensures.entries ∙ removed bytes_cmp bytes_total c.args.key.now before (passes (is_sorted bytes_cmp before) c.self.invariant.rising))

pub returns-clause-was_held : goal.returns-clause-was_held
returns-clause-was_held c =
    rw (← c.self.view_is) (c.is_some.ensures ∙ ap is_some (c.remove.ensures.value ∙ looked_up bytes_cmp c.args.key.now c.self.inside.by_key.entries))
