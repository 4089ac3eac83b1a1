use Rattle.std.proofs.Common.{IfSome, subst}
use Rattle.dvvset.specs.Object.{IsVector}
use Rattle.meta_store.specs.Context.{Reading}
use Rattle.node_core.proofs.Growing.{step_grows}
use Rattle.node_core.proofs.laws.each_step_grows.Goals as goal

pub returns-in-Some : goal.returns-in-Some
returns-in-Some c =
    step_grows c.args.event.now
    (subst (λ read. IfSome read (λ (context : Reading). IsVector context.vector)) c.in-Some.ensures
    (subst IsVector c.vector.ensures c.counters-counters.ensures.lawful))

pub returns-in-None : goal.returns-in-None
returns-in-None c =
    step_grows c.args.event.now (subst (λ read. IfSome read (λ (context : Reading). IsVector context.vector)) c.in-None.ensures tt)
