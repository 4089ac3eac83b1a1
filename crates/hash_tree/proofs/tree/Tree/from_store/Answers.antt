use Rattle.hash_tree.proofs.tree.Tree.from_store.Goals as goal

pub invariant_of-result : goal.invariant_of-result
invariant_of-result c = c.in_ok-parts.ensures.parts
