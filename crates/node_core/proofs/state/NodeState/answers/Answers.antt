use Rattle.std.proofs.Common.{map, subst, ap, ◌∙◌}
use Rattle.std.proofs.lemmas.List.Elements.{All-same}
use Rattle.exchange.specs.Answers.{answers_to}
use Rattle.meta_store.specs.Table.{IsTable}
use Rattle.node_overlay.specs.Outbox.{MaySend}
use Rattle.node_overlay.specs.Overlay.{envelope}
use Rattle.node_core.proofs.Answering.{answers_may}
use Rattle.node_core.proofs.state.NodeState.answers.Goals as goal

pub returns-clause-may : goal.returns-clause-may
returns-clause-may c =
    let s = c.args.self.now in
    let to = c.args.to in
    let message = c.args.message.now in
    let few_is = c.store.ensures ∙ ap (λ s. s.table) c.self.view_is in
    let table_is = ap (λ s. s.table) c.self.view_is in
    let told = c.in_ok-messages.ensures ∙ ap (λ t. answers_to t message) table_is in
    All-same (MaySend s.node) c.in_ok-addressed.field-0.items (map (envelope to) (answers_to s.table message))
    (c.in_ok-addressed.ensures ∙ ap (map (envelope to)) told)
    (answers_may s.table (subst IsTable few_is c.len-few.ensures.is_table) s.node to c.requires message)
