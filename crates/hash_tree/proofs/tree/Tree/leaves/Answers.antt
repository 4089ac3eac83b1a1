use Rattle.std.proofs.Common.{ℕ, ◌≡◌, [], ap, refl, sym, ◌∙◌}
use Rattle.std.specs.Bool.{passes}
use Rattle.std.specs.FinMap.{is_sorted}
use Rattle.meta_types.specs.Order.{prefix_cmp}
use Rattle.meta_store.proofs.Kept.{own_part, rows_absent, rows_found}
use Rattle.hash_tree.specs.Tree.{leaf_digest, leaf_digests, text_of}
use Rattle.hash_tree.proofs.tree.Tree.leaves.Goals as goal

none : (inner : ℕ) → leaf_digests [] 0 ≡ leaf_digests [] inner
unfolding leaf_digest text_of
none inner = refl

pub returns-in-Some : goal.returns-in-Some
returns-in-Some c =
    let parts = c.self.inside.parts.entries in
    let p = c.args.prefix.now in
    let own = own_part p parts (passes (is_sorted prefix_cmp parts) c.self.invariant.rising) ∙ rows_found p c.in-Some.tree.now parts c.in-Some.ensures.value in
    rw (← c.self.view_is) (c.leaves.ensures ∙ ap (λ rows. leaf_digests rows c.args.inner) (sym own))

pub returns-in-None : goal.returns-in-None
returns-in-None c =
    let parts = c.self.inside.parts.entries in
    let p = c.args.prefix.now in
    let own = own_part p parts (passes (is_sorted prefix_cmp parts) c.self.invariant.rising) ∙ rows_absent p parts c.in-None.ensures.value in
    rw (← c.self.view_is) (c.empty_leaves.ensures ∙ none c.args.inner ∙ ap (λ rows. leaf_digests rows c.args.inner) (sym own))
