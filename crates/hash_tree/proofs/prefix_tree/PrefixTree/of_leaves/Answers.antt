use Rattle.std.proofs.Common.{◌≡◌, ap, ◌∙◌}
use Rattle.hash_tree.specs.Tree.{inner_digests}
use Rattle.hash_tree.specs.Kept.{inner_over}
use Rattle.hash_tree.proofs.Changing.{all_inner, root_over}
use Rattle.hash_tree.proofs.prefix_tree.PrefixTree.of_leaves.Goals as goal

pub invariant_of-result : goal.invariant_of-result
invariant_of-result c =
    let rows = c.args.leaves in
    let inner : c.inner_of-inner.result ≡ inner_digests rows = c.inner_of-inner.ensures ∙ ap inner_over (c.as_slice.ensures.value ∙ c.in_ok-leaf_digests.ensures) ∙ all_inner rows in
    record {
      leaf_digests = c.in_ok-leaf_digests.ensures;
      inner = inner;
      root = c.digest_of_all-root.ensures ∙ root_over rows c.inner_of-inner.result inner;
    }
