use Rattle.std.proofs.Common.{ap, ◌∙◌}
use Rattle.meta_store.specs.Table.{is_stale}
use Rattle.plumtree.specs.Broadcast.{TakesIHave}
use Rattle.node_core.proofs.Casting.{after_ihave, told_quietly}
use Rattle.node_core.proofs.state.NodeState.on_ihave.Goals as goal

pub returns : goal.returns
returns c =
    let key = c.args.key.now in
    let vector = c.args.vector.now in
    let stale = c.is_stale-stale in
    let table_is = c.store.ensures ∙ ap (λ s. s.table) c.self.view_is in
    let stale_is = stale.ensures ∙ ap (λ t. is_stale t key vector) table_is in
    told_quietly (TakesIHave c.args.from c.args.round key vector stale.result) c.args.self.now _ c.in_ok-pending.pending c.on_ihave.new.self _
    c.nothing_sent.result c.self.view_is c.self.invariant c.in_ok-pending.ensures.pending
    (after_ihave c.args.from c.args.round key vector c.args.self.now stale.result stale_is) c.nothing_sent.ensures
