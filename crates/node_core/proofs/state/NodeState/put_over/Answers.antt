use Rattle.std.proofs.Common.{◌≡◌, Some, ap, subst, ◌∙◌}
use Rattle.meta_store.specs.Context.{Reading, reading_at}
use Rattle.node_core.specs.Node.{NodeParts, present}
use Rattle.node_core.specs.Handling.{AttemptsWrite}
use Rattle.node_core.proofs.state.NodeState.put_over.Goals as goal

pub returns : goal.returns
returns c =
    let s = c.args.self.now in
    let key = c.args.key.now in
    let table_is = c.store.ensures ∙ ap (λ (s : NodeParts). s.table) c.self.view_is in
    let is : c.in_ok-context.context ≡ present key s =
    c.in_ok-context.ensures ∙ (λ i. reading_at (table_is i) key (c.source.ensures i)) in
    subst (λ (context : Reading). AttemptsWrite s key c.args.value.now (Some context) c.write-written.result c.write-written.new.self)
    is c.write-written.ensures
