use Rattle.std.proofs.Common.{List, IfOk, refl, subst, ◌∙◌, ap, arith}
use Rattle.cluster.specs.Run.{IsRunOf, RefusesNewRun}
use Rattle.cluster_worker.specs.Serving.{LifeView, lives_from}
use Rattle.cluster.proofs.Fresh.{first_on, refused_largest}
use Rattle.cluster.proofs.Gathered.{err_more}
use Rattle.cluster.proofs.run.run_cluster.Goals as goal

pub returns-clause-run : goal.returns-clause-run
returns-clause-run c d =
    let same = ap (lives_from 0) d.in_ok-devices.ensures.empty ∙ first_on d.an_empty_file_is_served.ensures d.args.plan.nodes (omega arith) in
    subst (λ (lives : List LifeView). IfOk d.run_cluster_on.result (IsRunOf d.args.plan lives)) same d.run_cluster_on.ensures.run

pub returns-clause-refused : goal.returns-clause-refused
returns-clause-refused c d =
    err_more _ (RefusesNewRun d.args.plan) d.run_cluster_on.result
    (λ fault why. refused_largest _ _ d.args.plan d.largest.result d.in_ok-devices.devices.items fault d.an_empty_file_is_served.ensures d.in_ok-devices.ensures.empty (λ device. refl) d.largest.ensures why)
    d.run_cluster_on.ensures.refused
