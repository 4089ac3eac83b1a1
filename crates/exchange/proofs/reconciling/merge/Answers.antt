use Rattle.std.proofs.Common.{subst, rules}
use Rattle.meta_types.specs.Failing.{FailsBy}
use Rattle.meta_store.specs.Step.{refusal_of_merge}
use Rattle.meta_store.specs.declared.fault.StoreFault.TheVariants.{Memory}
use Rattle.exchange.proofs.reconciling.merge.Goals as goal

pub returns-in_err-preview_merge-clause-fault : goal.returns-in_err-preview_merge-clause-fault
returns-in_err-preview_merge-clause-fault c =
    let told : FailsBy Memory (refusal_of_merge c.store.result.now c.args.key.now c.args.object.now) c.from_residual.result = search rules in
    subst (λ table. FailsBy Memory (refusal_of_merge table c.args.key.now c.args.object.now) c.from_residual.result) c.store.ensures told
