use Rattle.std.proofs.Common.{sym, ap, ◌∙◌}
use Rattle.std.specs.Bool.{passes}
use Rattle.std.specs.FinMap.{is_sorted}
use Rattle.meta_types.specs.Order.{prefix_cmp}
use Rattle.meta_store.proofs.Kept.{listed, own_keys, rows_absent, rows_found}
use Rattle.meta_store.proofs.Maps.{if_ok_more}
use Rattle.meta_store.proofs.store.Store.list.Goals as goal

pub returns-in-Some : goal.returns-in-Some
returns-in-Some c =
    let parts = c.self.inside.parts.entries in
    let p = c.args.prefix.now in
    let all = listed p parts (passes (is_sorted prefix_cmp parts) c.self.invariant.parts.rising) in
    rw (← c.self.view_is) (if_ok_more c.keys.result (λ keys is.
    is ∙ ap (own_keys p) (sym (rows_found p c.in-Some.rows.now parts c.in-Some.ensures.value)) ∙ sym all)
    c.keys.ensures)

pub returns-in-None : goal.returns-in-None
returns-in-None c =
    let parts = c.self.inside.parts.entries in
    let p = c.args.prefix.now in
    let all = listed p parts (passes (is_sorted prefix_cmp parts) c.self.invariant.parts.rising) in
    rw (← c.self.view_is) (c.new.ensures.items ∙ ap (own_keys p) (sym (rows_absent p parts c.in-None.ensures.value)) ∙ sym all)
