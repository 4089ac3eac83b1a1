use Rattle.std.proofs.Common.{subst, sym, ap, ◌∙◌}
use Rattle.std.specs.FinMap.{find}
use Rattle.meta_types.specs.Order.{bytes_cmp}
use Rattle.meta_store.proofs.Maps.{on_err_more, on_ok_more}
use Rattle.hash_tree.specs.Kept.{AreLeaves, leaf_at}
use Rattle.hash_tree.proofs.ByLeaf.{by_result, find_joined, joined_after, leaves_after}
use Rattle.hash_tree.proofs.leaves.Leaves.hold.Goals as goal

pub invariant_of-self : goal.invariant_of-self
invariant_of-self c =
    let leaves = c.self.inside.by_number.entries in
    let new = c.put_leaf.new.leaves.entries in
    by_result c.put_leaf.result c.put_leaf.ensures.value c.put_leaf.ensures.same
    (λ is. leaves_after c.args.key.now c.args.digest leaves c.self.invariant c.requires.in_range c.args.leaf new c.requires.leaf is)
    (λ is. subst AreLeaves (sym is) c.self.invariant)

pub returns-clause-value : goal.returns-clause-value
returns-clause-value c =
    let leaves = c.self.inside.by_number.entries in
    let new = c.put_leaf.new.leaves.entries in
    rw (← c.self.view_is) (on_ok_more c.put_leaf.result
    (λ is. joined_after c.args.key.now c.args.digest leaves c.self.invariant c.requires.in_range c.args.leaf new c.requires.leaf is)
    c.put_leaf.ensures.value)

pub returns-clause-absent : goal.returns-clause-absent
returns-clause-absent c =
    let leaves = c.self.inside.by_number.entries in
    let k = c.args.key.now in
    rw (← c.self.view_is) (on_err_more c.put_leaf.result
    (λ none. find_joined k leaves c.self.invariant ∙ ap (λ n. find bytes_cmp k (leaf_at n leaves)) (sym c.requires.leaf) ∙ none)
    c.put_leaf.ensures.absent)
