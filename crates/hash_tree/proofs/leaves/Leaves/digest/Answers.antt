use Rattle.std.proofs.Common.{◌∙◌}
use Rattle.hash_tree.proofs.ByLeaf.{digest_absent, digest_found}
use Rattle.hash_tree.proofs.leaves.Leaves.digest.Goals as goal

pub returns-in-Some : goal.returns-in-Some
returns-in-Some c =
    rw (← c.self.view_is) (c.digest.ensures ∙ digest_found c.args.leaf c.self.inside.by_number.entries c.self.invariant c.in-Some.bucket.now c.in-Some.ensures.value)

pub returns-in-None : goal.returns-in-None
returns-in-None c =
    rw (← c.self.view_is) (c.empty_digest.ensures ∙ digest_absent c.args.leaf c.self.inside.by_number.entries c.self.invariant c.in-None.ensures.value)
