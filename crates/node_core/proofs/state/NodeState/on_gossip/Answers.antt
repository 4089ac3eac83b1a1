use Rattle.std.proofs.Common.{refl, sym, ap, ◌∙◌}
use Rattle.node_core.specs.Node.{NodeParts}
use Rattle.node_core.proofs.Arriving.{fresh_taken, merge_refused}
use Rattle.node_core.proofs.state.NodeState.on_gossip.Goals as goal

pub returns-in_err-object : goal.returns-in_err-object
returns-in_err-object c =
    merge_refused c.from_residual.result c.args.self.now c.args.self.now c.args.key.now c.args.came.now _ _ _ _ refl
    (c.store.ensures ∙ ap (λ (s : NodeParts). s.table) c.self.view_is) c.in_err-object.ensures.fault c.from_residual.ensures.1

pub returns-in_ok-end-in-Some : goal.returns-in_ok-end-in-Some
returns-in_ok-end-in-Some c =
    let told = c.in_ok-end-in-Some.ensures in
    fresh_taken c.args.from c.args.round c.args.key.now c.args.came.now c.in-Some.object c.args.self.now c.change.new.self c.in_ok-news-in-Some.news
    c.in_ok-end-in-Some.end c.in_ok-end-in-Some.outbox (c.store.ensures ∙ ap (λ (s : NodeParts). s.table) c.self.view_is)
    (sym c.in-Some.is ∙ c.in_ok-object.ensures.value) c.in_ok-object.ensures.no_refusal c.in_ok-news-in-Some.ensures.news told.frames told.end told.undo
