use Rattle.std.proofs.Common.{◌≡◌, refl, sym, ap, subst, ◌∙◌}
use Rattle.std.specs.Option.{option_map}
use Rattle.meta_store.specs.Table.{IsTable, Table}
use Rattle.node_events.specs.Event.{stored_key}
use Rattle.node_core.specs.Attempt.{committed}
use Rattle.node_core.specs.Leaving.{StepLeaves}
use Rattle.node_core.specs.Node.{NodeParts}
use Rattle.node_core.specs.Step.{IsNodeStep}
use Rattle.node_core.specs.declared.state.Stepped.{Stepped}
use Rattle.node_core.proofs.Leaves.{each_step_leaves}
use Rattle.restart_images.specs.declared.node.ImagedStep.{ImagedStep}
use Rattle.restart_images.specs.Keeping.{change_at}
use Rattle.restart_images.specs.Node.{ImagedNode, IsImagedStep, with_images}
use Rattle.restart_images.specs.contracts.node.ImagedNode.{the_view}
use Rattle.restart_images.proofs.Stepping.{left_is, left_restorable}
use Rattle.restart_images.proofs.node.ImagedNode.step_on.Goals as goal

pub invariant_of-self-in-Ok : goal.invariant_of-self-in-Ok
invariant_of-self-in-Ok c =
    let old : ImagedNode = the_view c.self.inside in
    let event = c.args.event.now in
    let commit = c.commit-reply in
    let new = commit.new.self in
    let attempted = c.in_ok-attempt.ensures.attempt in
    let step = subst (λ s. IsNodeStep old.state event s commit.result) (sym commit.ensures.node)
    (subst (IsNodeStep old.state event (committed c.in_ok-attempt.attempt c.attempt.new.self)) (sym commit.ensures.stepped) attempted.step) in
    let table_is = c.store-store.ensures ∙ attempted.table ∙ sym (ap (λ (s : NodeParts). s.table) commit.ensures.node) in
    let leaves : StepLeaves old.state event new commit.result = each_step_leaves old.state event new commit.result step in
    left_restorable old (with_images new c.keep.new.images c.in-Ok.standing) event commit.result _
    c.self.invariant (subst IsTable c.store.ensures c.len-few.ensures.is_table) leaves
    (ap (λ (t : Table). option_map (change_at t) (stored_key event)) table_is) c.in-Ok.ensures.images c.in-Ok.ensures.standing

pub returns-in-Ok-clause-step : goal.returns-in-Ok-clause-step
returns-in-Ok-clause-step c =
    let old : ImagedNode = the_view c.self.inside in
    let event = c.args.event.now in
    let commit = c.commit-reply in
    let new = commit.new.self in
    let attempted = c.in_ok-attempt.ensures.attempt in
    let step = subst (λ s. IsNodeStep old.state event s commit.result) (sym commit.ensures.node)
    (subst (IsNodeStep old.state event (committed c.in_ok-attempt.attempt c.attempt.new.self)) (sym commit.ensures.stepped) attempted.step) in
    let table_is = c.store-store.ensures ∙ attempted.table ∙ sym (ap (λ (s : NodeParts). s.table) commit.ensures.node) in
    let given : ImagedStep = record { reply = commit.result.reply; copy = c.in-Ok.copy; context = c.in_ok-context.context; outbox = commit.result.outbox } in
    subst (λ n. IsImagedStep n event (with_images new c.keep.new.images c.in-Ok.standing) given) c.self.view_is (record {
      state = new;
      step = step;
      arrives = left_is old (with_images new c.keep.new.images c.in-Ok.standing) event _
          (ap (λ (t : Table). option_map (change_at t) (stored_key event)) table_is) c.in-Ok.ensures.images c.in-Ok.ensures.standing;
      copy = c.in-Ok.ensures.copy ∙ c.reply.ensures ∙ sym (ap (λ (s : Stepped). s.reply) commit.ensures.stepped);
      context = c.in_ok-context.ensures;
    })
