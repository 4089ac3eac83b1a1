use Rattle.std.proofs.Common.{◌≡◌, ◌*◌, ◌/◌, take, drop, refl, ap, arith, ◌∙◌}
use Rattle.std.specs.List.{concat, slice_set}
use Rattle.sha2.specs.Sha256.{sha256}
use Rattle.hash_tree.specs.Kept.{all_leaf_digests}
use Rattle.hash_tree.specs.Tree.{inner_digest}
use Rattle.hash_tree.proofs.Changing.{inner_by_leaves, leaves_renewed, nodes_renewed, root_over}
use Rattle.hash_tree.proofs.prefix_tree.renew.Goals as goal

pub returns-clause-inner : goal.returns-clause-inner
returns-clause-inner c =
    let rows = c.args.leaves.now in
    let leaf = c.args.leaf in
    let old = c.args.leaf_digests.now.items in
    let leaves : slice_set old leaf c.digest.result ≡ all_leaf_digests rows = leaves_renewed rows leaf old c.args.inner.now c.requires (slice_set old leaf c.digest.result) c.digest.result refl c.digest.ensures in
    let node : c.digest_of_all.result ≡ inner_digest rows (leaf / 16) =
    c.digest_of_all.ensures ∙ ap (λ ds. sha256 (concat ds)) c.sixteen.ensures
    ∙ ap (λ ds. sha256 (concat (take 16 (drop (16 * (leaf / 16)) ds)))) (c.as_slice.ensures.value ∙ leaves)
    ∙ inner_by_leaves rows (leaf / 16) (omega arith) in
    nodes_renewed rows leaf old c.args.inner.now c.requires (slice_set c.args.inner.now (leaf / 16) c.digest_of_all.result) c.digest_of_all.result refl node

pub returns-clause-root : goal.returns-clause-root
returns-clause-root c =
    let rows = c.args.leaves.now in
    let inner = slice_set c.args.inner.now (c.args.leaf / 16) c.digest_of_all.result in
    c.digest_of_all-2.ensures ∙ root_over rows inner (returns-clause-inner c)
