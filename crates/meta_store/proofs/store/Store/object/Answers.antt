use Rattle.std.proofs.Common.{sym, ap, ◌∙◌}
use Rattle.std.specs.Bool.{passes}
use Rattle.std.specs.FinMap.{find, is_sorted}
use Rattle.meta_types.specs.Order.{bytes_cmp, prefix_cmp}
use Rattle.meta_store.proofs.Holding.{held_if_found}
use Rattle.meta_store.proofs.Kept.{find_row, rows_absent, rows_found}
use Rattle.meta_store.proofs.store.Store.object.Goals as goal

pub returns-in_err-get-clause-value : goal.returns-in_err-get-clause-value
returns-in_err-get-clause-value c =
    let parts = c.self.inside.parts.entries in
    let k = c.args.key.now in
    rw (c.from_residual.ensures, ← c.self.view_is) (sym (
    find_row k parts (passes (is_sorted prefix_cmp parts) c.self.invariant.parts.rising)
    ∙ ap (find bytes_cmp k.key) (rows_absent k.prefix parts (rw (← c.prefix.ensures.value) c.in_err-get.ensures.value))))

pub returns-clause-value : goal.returns-clause-value
returns-clause-value c =
    let parts = c.self.inside.parts.entries in
    let k = c.args.key.now in
    rw (← c.self.view_is) (
    c.object.ensures
    ∙ ap (λ key. find bytes_cmp key c.in_ok-get.field-0.now) c.own_bytes.ensures.value
    ∙ ap (find bytes_cmp k.key) (sym (rows_found k.prefix c.in_ok-get.field-0.now parts (rw (← c.prefix.ensures.value) c.in_ok-get.ensures.value)))
    ∙ sym (find_row k parts (passes (is_sorted prefix_cmp parts) c.self.invariant.parts.rising)))

pub returns-clause-lawful : goal.returns-clause-lawful
returns-clause-lawful c =
    held_if_found c.args.key.now c.args.self.now c.object.result (rw (← c.self.view_is) c.self.invariant.parts.table) (returns-clause-value c)
