use Rattle.std.proofs.Common.{sym, ap, subst, ◌∙◌}
use Rattle.dvvset.specs.Clock.{values_of}
use Rattle.meta_store.specs.Table.{Table, object_at}
use Rattle.node_core.specs.Attempt.{committed}
use Rattle.node_core.specs.Node.{NodeParts}
use Rattle.node_core.specs.Repair.{IsRepair, repair_event}
use Rattle.node_core.proofs.Repairing.{repaired, not_repaired}
use Rattle.node_core.proofs.state.NodeState.repair.Goals as goal

pub returns-in-Some-clause-step : goal.returns-in-Some-clause-step
returns-in-Some-clause-step g c =
    let resolver = c.args.resolver.now in
    let choice = (goal.Resolver-dyn g (resolver.vtable, resolver.value)).choice resolver.value in
    let shown = λ (t : Table). values_of (object_at t c.args.key.now) in
    let are = c.as_slice.ensures.value ∙ c.in_ok-siblings.ensures.values ∙ ap shown (c.store.ensures ∙ ap (λ (s : NodeParts). s.table) c.self.view_is) in
    let event = repair_event choice c.args.key.now c.args.self.now in
    let a = c.in_ok-attempt-in-Some.attempt in
    let made = repaired choice c.args.key.now c.args.self.now c.put_over.new.self c.as_slice.result.now c.in-Some.value a
    are (sym c.in_ok-value.ensures ∙ c.in-Some.is) c.in_ok-attempt-in-Some.ensures in
    subst (λ new. IsRepair event c.args.self.now new c.commit.result) (sym c.commit.ensures.node)
    (subst (IsRepair event c.args.self.now (committed a c.put_over.new.self)) (sym c.commit.ensures.stepped) made)

pub returns-in_err-attempt-in-Some-clause-refused : goal.returns-in_err-attempt-in-Some-clause-refused
returns-in_err-attempt-in-Some-clause-refused g c =
    let resolver = c.args.resolver.now in
    let choice = (goal.Resolver-dyn g (resolver.vtable, resolver.value)).choice resolver.value in
    let shown = λ (t : Table). values_of (object_at t c.args.key.now) in
    let are = c.as_slice.ensures.value ∙ c.in_ok-siblings.ensures.values ∙ ap shown (c.store.ensures ∙ ap (λ (s : NodeParts). s.table) c.self.view_is) in
    not_repaired choice c.args.key.now c.args.self.now c.put_over.new.self c.as_slice.result.now c.in-Some.value _
    c.from_residual-in_err-attempt-in-Some.result are (sym c.in_ok-value.ensures ∙ c.in-Some.is) c.in_err-attempt-in-Some.ensures
    c.from_residual-in_err-attempt-in-Some.ensures.1
