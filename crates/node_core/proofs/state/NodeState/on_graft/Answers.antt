use Rattle.std.proofs.Common.{false, sym, ap, ◌∙◌}
use Rattle.meta_store.specs.Table.{is_stale}
use Rattle.plumtree.specs.Broadcast.{TakesGraft}
use Rattle.node_core.proofs.Casting.{after_bare_graft, told_quietly}
use Rattle.node_core.proofs.state.NodeState.on_graft.Goals as goal

pub returns-in_ok-pending : goal.returns-in_ok-pending
returns-in_ok-pending c =
    let s = c.args.self.now in
    let from = c.args.from in
    let round = c.args.round in
    let key = c.args.key.now in
    let vector = c.args.vector.now in
    let table_is = c.store.ensures ∙ ap (λ s. s.table) c.self.view_is in
    let stale_is = sym (c.is_stale-held.ensures ∙ ap (λ t. is_stale t key vector) table_is) in
    told_quietly (TakesGraft from round key false) s _ c.in_ok-pending.pending c.on_bare_graft.new.self _ c.nothing_sent.result
    c.self.view_is c.self.invariant c.in_ok-pending.ensures.pending (after_bare_graft from round key vector s (stale_is ∙ c.if-held.false))
    c.nothing_sent.ensures
