use Rattle.std.proofs.Common.{List, ◌≡◌, ◌∷◌, [], ap, refl, sym, ◌∙◌}
use Rattle.std.specs.Bool.{passes}
use Rattle.std.specs.List.{concat}
use Rattle.std.specs.FinMap.{is_sorted}
use Rattle.sha2.specs.Sha256.{sha256}
use Rattle.meta_types.specs.Order.{prefix_cmp}
use Rattle.meta_store.proofs.Kept.{own_part, rows_absent, rows_found}
use Rattle.hash_tree.specs.Tree.{Digest, inner_digest, inner_digests, leaf_digest, leaf_digests, text_of}
use Rattle.hash_tree.proofs.tree.Tree.inner.Goals as goal

abbrev sixteen : Digest → List Digest
sixteen d = d ∷ d ∷ d ∷ d ∷ d ∷ d ∷ d ∷ d ∷ d ∷ d ∷ d ∷ d ∷ d ∷ d ∷ d ∷ d ∷ []

none : sixteen (sha256 (concat (leaf_digests [] 0))) ≡ inner_digests []
unfolding inner_digest leaf_digest text_of
none = refl

pub returns-in-Some : goal.returns-in-Some
returns-in-Some c =
    let parts = c.self.inside.parts.entries in
    let p = c.args.prefix.now in
    let own = own_part p parts (passes (is_sorted prefix_cmp parts) c.self.invariant.rising) ∙ rows_found p c.in-Some.tree.now parts c.in-Some.ensures.value in
    rw (← c.self.view_is) (c.inner.ensures ∙ ap inner_digests (sym own))

pub returns-in-None : goal.returns-in-None
returns-in-None c =
    let parts = c.self.inside.parts.entries in
    let p = c.args.prefix.now in
    let own = own_part p parts (passes (is_sorted prefix_cmp parts) c.self.invariant.rising) ∙ rows_absent p parts c.in-None.ensures.value in
    rw (← c.self.view_is) (ap sixteen (c.digest_of_all.ensures ∙ ap (λ ds. sha256 (concat ds)) c.empty_leaves.ensures) ∙ none ∙ ap inner_digests (sym own))
