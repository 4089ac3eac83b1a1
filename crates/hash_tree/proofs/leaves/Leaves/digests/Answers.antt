use Rattle.std.proofs.Common.{◌≡◌, ap, map, arith, ◌∙◌}
use Rattle.std.specs.List.{range_with_len}
use Rattle.hash_tree.specs.Tree.{leaf_digest}
use Rattle.hash_tree.proofs.Steps.{pushed}
use Rattle.hash_tree.proofs.leaves.Leaves.digests.Goals as goal

pub loop-leaf-preserved : goal.loop-leaf-preserved
loop-leaf-preserved c =
    pushed (leaf_digest c.args.self.now) c.loop-leaf.leaf c.loop-leaf.digests.items c.push.new.self.items c.digest_or.result c.loop-leaf.invariant c.in_ok-push.ensures.items c.digest_or.ensures

pub returns : goal.returns
returns c =
    let all : c.loop-leaf.leaf ≡ 256 = omega arith in
    c.loop-leaf.invariant ∙ ap (λ n. map (leaf_digest c.args.self.now) (range_with_len 0 n)) all
