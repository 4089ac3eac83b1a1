use Rattle.std.proofs.Common.{Some, None, refl, sym, ap, subst, ◌∙◌}
use Rattle.std.specs.FinMap.{find}
use Rattle.meta_types.specs.Order.{key_cmp}
use Rattle.meta_store.specs.Table.{IsTable, Table, with_object}
use Rattle.subscriptions.specs.News.{NewsParts}
use Rattle.node_core.specs.declared.attempt.End.TheVariants.{Change}
use Rattle.node_core.specs.Attempt.{Undoes}
use Rattle.node_core.specs.Node.{parts}
use Rattle.node_core.proofs.Attempting.{change_to_undo}
use Rattle.node_core.proofs.state.NodeState.change_quietly.Goals as goal

pub returns-clause-undo : goal.returns-clause-undo
returns-clause-undo c =
    let news = c.args.news in
    let was = c.self.inside in
    let held = c.in_ok-before.ensures in
    let is = held.value ∙ ap (λ key. with_object key c.args.object was.held) c.key.ensures in
    let now = λ (table : Table). parts was.node was.incarnation table was.overlay was.watches was.heard was.steps was.frames was.ticks in
    subst (λ table. Undoes c.args.self.now (now table) (Some news.change.key) (Change news c.in_ok-before.before None)) (sym is)
    (change_to_undo news c.in_ok-before.before None was.overlay c.args.object c.args.self.now _ c.self.view_is c.self.invariant
    (subst IsTable c.store.ensures c.len.ensures.is_table) (held.before ∙ ap (λ key. find key_cmp key was.held) c.key.ensures) held.lawful
    (ap (λ (n : NewsParts). n.notes) c.requires.news) refl c.self.invariant.own_views tt)
