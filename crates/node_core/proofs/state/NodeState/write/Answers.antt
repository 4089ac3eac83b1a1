use Rattle.std.proofs.Common.{ap, ◌∙◌}
use Rattle.std.specs.Option.{option_copied}
use Rattle.node_core.specs.Node.{NodeParts}
use Rattle.node_core.proofs.Stepping.{write_attempted}
use Rattle.node_core.proofs.state.NodeState.write.Goals as goal

pub returns : goal.returns
returns c =
    let told = c.in_ok-end.ensures in
    write_attempted c.change.new.self c.args.key.now (option_copied c.args.context) c.in_ok-object.object c.in_ok-vector.vector c.in_ok-news.news
    c.in_ok-end.end c.in_ok-end.outbox (c.store-store.ensures ∙ ap (λ (s : NodeParts). s.table) c.self.view_is) c.actor.ensures c.in_ok-copy.ensures
    c.in_ok-object.ensures.no_refusal c.in_ok-object.ensures.value c.in_ok-news.ensures.news (c.in_ok-vector.ensures ∙ c.vector.ensures) told.frames told.end told.undo
