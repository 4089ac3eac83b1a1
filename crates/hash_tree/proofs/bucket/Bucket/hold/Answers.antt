use Rattle.std.proofs.Common.{map, subst, sym, ap, ◌∙◌}
use Rattle.std.specs.List.{insert}
use Rattle.frame_fields.specs.Field.{key_row_parts}
use Rattle.meta_store.specs.Kept.{AreRows}
use Rattle.hash_tree.specs.Kept.{IsAbsentAt, IsAt}
use Rattle.hash_tree.proofs.ByLeaf.{rows_put}
use Rattle.hash_tree.proofs.bucket.Bucket.hold.Goals as goal

pub invariant_of-self : goal.invariant_of-self
invariant_of-self c =
    let rows = c.self.inside.rows.items in
    let at : IsAt c.args.key.now rows c.in-Ok.place = subst (λ list. IsAt c.args.key.now list c.in-Ok.place) c.as_slice.ensures.value c.in-Ok.ensures.there in
    subst AreRows (at.replaced c.index_mut.result.now c.index_mut.ensures.value c.args.digest) (rows_put c.args.key.now c.args.digest (map key_row_parts rows) c.self.invariant c.requires.in_range)

pub invariant_of-self-in-Err : goal.invariant_of-self-in-Err
invariant_of-self-in-Err c =
    let rows = c.self.inside.rows.items in
    let at : IsAbsentAt c.args.key.now rows c.in-Err.place = subst (λ list. IsAbsentAt c.args.key.now list c.in-Err.place) c.as_slice.ensures.value c.in-Err.ensures.absent in
    subst AreRows
    (at.inserted c.args.digest
    ∙ ap (λ k. map key_row_parts (insert rows c.in-Err.place (record { key = k; digest = c.args.digest }))) (sym c.in_ok-key-in-Err.ensures)
    ∙ ap (map key_row_parts) (sym c.in_ok-insert-in-Err.ensures.items))
    (rows_put c.args.key.now c.args.digest (map key_row_parts rows) c.self.invariant c.requires.in_range)
