use Rattle.std.proofs.Common.{◌<◌, ap, arith, ◌∙◌}
use Rattle.hash_tree.specs.Tree.{leaf_of}
use Rattle.hash_tree.proofs.Changing.{digests_but_put}
use Rattle.hash_tree.proofs.prefix_tree.PrefixTree.hold.Goals as goal

pub renew-self-inside-requires : goal.renew-self-inside-requires
renew-self-inside-requires c =
    let leaf = c.leaf_of-leaf.result in
    let byte : leaf < 256 = omega arith in
    let at = c.leaf_of-leaf.ensures ∙ ap leaf_of c.as_slice.ensures in
    digests_but_put c.args.key.now c.self.inside.leaves c.hold.new.self leaf at byte c.args.digest c.in_ok-hold.ensures.value
    c.self.inside.leaf_digests.items c.self.inside.inner c.self.invariant.leaf_digests c.self.invariant.inner
