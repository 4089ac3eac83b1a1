use Rattle.std.proofs.Common.{List, ℕ, ◌++◌, ap, subst, take, ◌∙◌}
use Rattle.std.specs.List.{concat}
use Rattle.hash_tree.specs.Hashing.{HasTaken}
use Rattle.hash_tree.proofs.Steps.{concat_more}
use Rattle.hash_tree.proofs.hashing.digest_of_all.Goals as goal

pub loop-digest-preserved : goal.loop-digest-preserved
loop-digest-preserved c =
    let so_far : List ℕ = concat (take c.loop-digest.digest-index c.args.digests.now) in
    subst (HasTaken c.add.new.self)
    (ap (λ bytes. so_far ++ bytes) c.bytes.ensures.value ∙ concat_more c.args.digests.now c.loop-digest.digest-index c.digest-item.result c.loop-digest-test.true c.digest-item.is)
    (c.add.ensures so_far c.loop-digest.invariant)
