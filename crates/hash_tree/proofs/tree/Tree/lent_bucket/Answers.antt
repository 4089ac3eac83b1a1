use Rattle.std.proofs.Common.{sym, ap, refl, ◌∙◌}
use Rattle.std.specs.Bool.{passes}
use Rattle.std.specs.FinMap.{is_sorted}
use Rattle.meta_types.specs.Order.{prefix_cmp}
use Rattle.meta_store.proofs.Kept.{own_part, rows_absent, rows_found}
use Rattle.hash_tree.specs.Tree.{bucket}
use Rattle.hash_tree.proofs.tree.Tree.lent_bucket.Goals as goal

pub returns-in-Some : goal.returns-in-Some
returns-in-Some c =
    let parts = c.self.inside.parts.entries in
    let p = c.args.prefix.now in
    let own = own_part p parts (passes (is_sorted prefix_cmp parts) c.self.invariant.rising) ∙ rows_found p c.in-Some.tree.now parts c.in-Some.ensures.value in
    record {
      value = rw (← c.self.view_is) (c.bucket.ensures.value ∙ ap (λ rows. bucket rows c.args.leaf) (sym own));
      rising = c.bucket.ensures.rising;
    }

pub returns-in-None : goal.returns-in-None
returns-in-None c =
    let parts = c.self.inside.parts.entries in
    let p = c.args.prefix.now in
    let own = own_part p parts (passes (is_sorted prefix_cmp parts) c.self.invariant.rising) ∙ rows_absent p parts c.in-None.ensures.value in
    record { value = rw (← c.self.view_is) (ap (λ rows. bucket rows c.args.leaf) (sym own)); rising = refl }
