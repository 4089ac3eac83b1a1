use Rattle.std.proofs.Common.{sym, ap, ◌∙◌}
use Rattle.hash_tree.specs.Tree.{inner_digests, prefix_root}
use Rattle.hash_tree.specs.Kept.{all_leaf_digests}
use Rattle.hash_tree.proofs.prefix_tree.PrefixTree.copy.Goals as goal

pub invariant_of-result : goal.invariant_of-result
invariant_of-result c =
    let same = sym c.in_ok-copy.ensures in
    record {
      leaf_digests = c.in_ok-copied.ensures ∙ c.self.invariant.leaf_digests ∙ ap all_leaf_digests same;
      inner = c.self.invariant.inner ∙ ap inner_digests same;
      root = c.self.invariant.root ∙ ap prefix_root same;
    }
