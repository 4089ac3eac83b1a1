use Rattle.std.proofs.Common.{refl}
use Rattle.meta_frame.specs.declared.message.Message.TheVariants.{XRoot}
use Rattle.hash_tree.specs.Tree.{rows_of, tree_root}
use Rattle.exchange.proofs.Taking.{offered}
use Rattle.exchange.proofs.reconciling.offered.Goals as goal

pub returns : goal.returns
returns c =
    offered c.args.here.now c.args.there.now (λ v. v.items) c.answer_round-4.result (XRoot (tree_root (rows_of c.args.here.now))) c.in_ok-prefixes.prefixes.items c.in_ok-inner.inner.items c.in_ok-leaves.leaves.items c.in_ok-buckets.buckets.items
    refl c.in_ok-prefixes.ensures c.in_ok-inner.ensures c.in_ok-leaves.ensures c.in_ok-buckets.ensures c.answer_round-4.ensures
