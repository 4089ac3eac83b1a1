use Rattle.std.proofs.Common.{Some, sym, ap, subst, ◌∙◌}
use Rattle.std.specs.FinMap.{find}
use Rattle.meta_types.specs.Name.{IsKey}
use Rattle.meta_types.specs.Order.{key_cmp}
use Rattle.meta_store.specs.Table.{IsTable}
use Rattle.plumtree.specs.Lawful.{MayCome}
use Rattle.subscriptions.specs.News.{NewsParts}
use Rattle.node_overlay.specs.Origin.{HasOtherSender, call_of}
use Rattle.node_overlay.specs.Outbox.{IsSpelledVector}
use Rattle.node_overlay.specs.Overlay.{Overlay}
use Rattle.node_core.specs.declared.attempt.End.TheVariants.{Change}
use Rattle.node_core.specs.Attempt.{Undoes}
use Rattle.node_core.specs.Changing.{holding}
use Rattle.node_core.specs.Node.{NodeParts, parts}
use Rattle.node_core.proofs.Attempting.{change_to_undo}
use Rattle.node_core.proofs.Spreading.{joined_spells, may_spread}
use Rattle.node_core.proofs.state.NodeState.change.Goals as goal

pub spread-requires : goal.spread-requires
spread-requires c =
    let node = c.self.inside.overlay.views.node in
    let news = c.args.news in
    let own = c.self.invariant.own_views ∙ ap (λ (s : NodeParts). s.node) c.self.view_is in
    let another = subst (λ n. HasOtherSender n c.args.origin) (sym own) c.requires.another in
    let spelled = subst IsSpelledVector (sym (ap (λ (n : NewsParts). n.change.vector) c.requires.news)) (joined_spells c.args.object c.requires.held) in
    let may = may_spread node c.args.origin news.change.key news.change.vector another c.reveal_round.ensures (subst IsKey c.key.ensures c.key-2.ensures.in_range) spelled in
    subst (λ k. MayCome node (call_of c.args.origin k c.vector.result.now)) (sym c.key-3.ensures)
    (subst (λ v. MayCome node (call_of c.args.origin news.change.key v)) (sym c.vector.ensures) may)

pub returns-in-Ok-clause-undo : goal.returns-in-Ok-clause-undo
returns-in-Ok-clause-undo c =
    let news = c.args.news in
    let inside = c.self.inside in
    let pends = c.in_ok-pending.ensures.pending in
    let held = c.in-Ok.ensures in
    let told = parts inside.node inside.incarnation inside.held c.spread.new.self inside.watches inside.heard inside.steps inside.frames inside.ticks in
    let is = held.node ∙ ap (λ key. holding key c.args.object told) c.key-4.ensures in
    subst (λ new. Undoes c.args.self.now new (Some news.change.key) (Change news c.in-Ok.before (Some c.in_ok-pending.pending))) (sym is)
    (change_to_undo news c.in-Ok.before (Some c.in_ok-pending.pending) c.spread.new.self c.args.object c.args.self.now _ c.self.view_is c.self.invariant
    (subst IsTable c.store.ensures c.len.ensures.is_table) (held.before ∙ ap (λ key. find key_cmp key inside.held) c.key-4.ensures) held.lawful
    (ap (λ (n : NewsParts). n.notes) c.requires.news) pends.back
    (ap (λ (o : Overlay). o.views.node) pends.ends ∙ c.self.invariant.own_views) pends.can_end)
