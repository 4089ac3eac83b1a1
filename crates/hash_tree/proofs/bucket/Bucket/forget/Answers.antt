use Rattle.std.proofs.Common.{map, subst, sym, ap, ◌∙◌}
use Rattle.frame_fields.specs.Field.{key_row_parts}
use Rattle.meta_types.specs.Order.{bytes_cmp}
use Rattle.meta_store.specs.Kept.{AreRows}
use Rattle.meta_store.proofs.Forgetting.{none_out, rows_without}
use Rattle.hash_tree.specs.Kept.{IsAbsentAt, IsAt}
use Rattle.hash_tree.proofs.bucket.Bucket.forget.Goals as goal

pub invariant_of-self : goal.invariant_of-self
invariant_of-self c =
    let rows = c.self.inside.rows.items in
    let at : IsAt c.args.key.now rows c.in-Ok.place = subst (λ list. IsAt c.args.key.now list c.in-Ok.place) c.as_slice.ensures.value c.in-Ok.ensures.there in
    subst AreRows (at.removed ∙ ap (map key_row_parts) (sym c.remove.ensures.items)) (rows_without c.args.key.now (map key_row_parts rows) c.self.invariant)

pub invariant_of-self-in-Ok-2 : goal.invariant_of-self-in-Ok-2
invariant_of-self-in-Ok-2 c =
    let rows = c.self.inside.rows.items in
    let at : IsAt c.args.key.now rows c.in-Ok.place = subst (λ list. IsAt c.args.key.now list c.in-Ok.place) c.as_slice.ensures.value c.in-Ok.ensures.there in
    subst AreRows (at.removed ∙ ap (map key_row_parts) (sym c.remove.ensures.items)) (rows_without c.args.key.now (map key_row_parts rows) c.self.invariant)

pub returns-in_default : goal.returns-in_default
returns-in_default c =
    let rows = c.self.inside.rows.items in
    let at : IsAbsentAt c.args.key.now rows c.in_default.field-0 = subst (λ list. IsAbsentAt c.args.key.now list c.in_default.field-0) c.as_slice.ensures.value c.in_default.ensures.absent in
    rw (← c.self.view_is) (sym (none_out bytes_cmp c.args.key.now (map key_row_parts rows) at.absent))
