use Rattle.std.proofs.Common.{◌*◌, take, drop, ap, ◌∙◌}
use Rattle.hash_tree.proofs.Changing.{leaves_under}
use Rattle.hash_tree.proofs.prefix_tree.PrefixTree.leaves.Goals as goal

pub returns : goal.returns
returns c =
    rw (← c.self.view_is) (c.copy_from_slice.ensures.after ∙ c.sixteen.ensures
    ∙ ap (λ ds. take 16 (drop (16 * c.args.inner) ds)) (c.as_slice.ensures.value ∙ c.self.invariant.leaf_digests)
    ∙ leaves_under c.self.inside.leaves c.args.inner c.requires)
