use Rattle.std.proofs.Common.{rules, ◌≡◌, ◌∷◌, ◌++◌, [], Ok, length, All, IfErr, OnOk, Result, sym, subst, ap, ◌∙◌}
use Rattle.std.proofs.lemmas.List.Elements.{All-tail}
use Rattle.node_call.specs.declared.fault.LockFault.{LockFault}
use Rattle.cluster.specs.Run.{IsPutTogether}
use Rattle.cluster_worker.specs.Worked.{EndsRun}
use Rattle.cluster_worker.specs.declared.worker.Worked.{Worked}
use Rattle.cluster.proofs.Gathered.{added_more, all_added}
use Rattle.cluster_worker.proofs.Places.{none_left}
use Rattle.cluster.proofs.run.gather.Goals as goal

pub loop-outcome-init : goal.loop-outcome-init
loop-outcome-init c =
    let began : c.into_iter-outcome-iterator.result.rest.items ≡ c.args.outcomes.items = search rules in
    record {
      ends = subst (All (λ (o : Result Worked LockFault). IfErr o EndsRun)) (sym began) c.requires;
      added = ([], began, c.new-run.ensures);
    }

pub loop-outcome-preserved : goal.loop-outcome-preserved
loop-outcome-preserved c =
    let was = c.loop-outcome.invariant in
    let is = c.in-Some.ensures.steps.0 in
    let rest = c.next.new.self.rest.items in
    let ok : c.in-Some.outcome ≡ Ok c.in_ok-outcome.field-0 = c.in_ok-outcome.was in
    record {
      ends = All-tail (λ (o : Result Worked LockFault). IfErr o EndsRun) c.in-Some.outcome rest
          (subst (All (λ (o : Result Worked LockFault). IfErr o EndsRun)) is was.ends);
      added = added_more c.args.outcomes.items c.loop-outcome.outcome-iterator.rest.items rest c.in_ok-outcome.field-0
          c.loop-outcome.run c.add.new.self (is ∙ ap (λ o. o ∷ rest) ok)
          (λ all old. subst (λ r. OnOk r (IsPutTogether (all ++ c.in_ok-outcome.field-0 ∷ []) c.add.new.self)) c.in_ok-add.was (c.add.ensures all old))
          was.added;
    }

pub returns-clause-run : goal.returns-clause-run
returns-clause-run c =
    let few : length c.loop-outcome.outcome-iterator.rest.items ≡ 0 = search rules in
    all_added c.args.outcomes.items c.loop-outcome.outcome-iterator.rest.items c.loop-outcome.run
    (none_left c.loop-outcome.outcome-iterator.rest.items few) c.loop-outcome.invariant.added
