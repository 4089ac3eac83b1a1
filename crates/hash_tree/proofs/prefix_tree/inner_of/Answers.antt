use Rattle.std.proofs.Common.{◌*◌, [], take, drop, arith}
use Rattle.std.specs.List.{concat}
use Rattle.std.proofs.lemmas.List.FromFn.{fill_by_all}
use Rattle.sha2.specs.Sha256.{sha256}
use Rattle.hash_tree.proofs.prefix_tree.inner_of.Goals as goal

pub returns : goal.returns
returns c =
    fill_by_all (λ inner. sha256 (concat (take 16 (drop (16 * inner) c.args.leaf_digests.now)))) c.loop-place.inner 16 [] c.loop-place.invariant.0 (λ k lt. c.loop-place.invariant.1 k (omega arith))
