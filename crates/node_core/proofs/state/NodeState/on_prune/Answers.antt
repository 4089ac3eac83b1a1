use Rattle.plumtree.specs.Broadcast.{TakesPrune}
use Rattle.node_core.proofs.Casting.{after_prune, told_quietly}
use Rattle.node_core.proofs.state.NodeState.on_prune.Goals as goal

pub returns : goal.returns
returns c =
    told_quietly (TakesPrune c.args.from) c.args.self.now _ c.in_ok-pending.pending c.on_prune.new.self _ c.nothing_sent.result
    c.self.view_is c.self.invariant c.in_ok-pending.ensures.pending (after_prune c.args.from c.args.self.now) c.nothing_sent.ensures
