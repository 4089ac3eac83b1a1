use Rattle.std.proofs.Common.{◌≡◌, ℕ, ◌*◌, ◌<◌, [], length, get_or, take, drop}
use Rattle.std.specs.List.{concat}
use Rattle.sha2.specs.Sha256.{sha256}
use Rattle.hash_tree.proofs.prefix_tree.inner_of.Given as goal

abbrev pub invariant-loop-place : goal.invariant-loop-place
invariant-loop-place l = (length l.inner ≡ 16)
    × ((k : ℕ) → k < l.place → get_or l.inner k [] ≡ sha256 (concat (take 16 (drop (16 * k) l.leaf_digests))))
