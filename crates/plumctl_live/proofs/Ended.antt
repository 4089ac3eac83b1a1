-- What workers leave are runs that end with their tables.
use Rattle.std.proofs.Common.{List, [], ◌∷◌, map, All, sym, subst}
use Rattle.std.specs.List.{AllZip}
use Rattle.std.proofs.lemmas.List.Elements.{All-nil, All-cons}
use Rattle.node_journal.specs.Closed.{ClosedNode, EndsWithTable}
use Rattle.cluster_worker.specs.Serving.{LifeView}
use Rattle.cluster_worker.specs.Worked.{HasWorked}
use Rattle.cluster_worker.specs.declared.plan.ClusterPlan.{ClusterPlan}
use Rattle.cluster_worker.specs.declared.worker.Worked.{Worked}
use Rattle.run_record.proofs.Closing.{what_is_closed_is_equal}
use Rattle.plumctl_live.specs.Live.{NoRunIsUnequal}

all_end : (plan : ClusterPlan) (lives : List LifeView) (all : List Worked)
    → AllZip (HasWorked plan) lives all → All EndsWithTable (map (λ (w : Worked). w.closed) all)
all_end plan lives [] worked = All-nil EndsWithTable
all_end plan [] (w ∷ all) worked = absurd worked
all_end plan (life ∷ lives) (w ∷ all) worked = All-cons EndsWithTable w.closed (map (λ (w : Worked). w.closed) all) worked.0.left.run (all_end plan lives all worked.1)

pub no_run_is_unequal : NoRunIsUnequal
no_run_is_unequal plan lives run n is refused =
    what_is_closed_is_equal run.closed.items n refused.0 (subst (λ (closed : List ClosedNode). All EndsWithTable closed) (sym is.together.closed) (all_end plan lives is.all is.worked)) refused.1.1.1
