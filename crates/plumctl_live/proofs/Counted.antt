-- A run of so many nodes is judged as one of so many.
use Rattle.std.proofs.Common.{suc, ◌+◌, ◌≡◌, refl, ℕ, Bool, true, false, not, nat_eq, List, [], ◌∷◌, length, map, None, Result, Ok, Err, IfOk, OnOk, ap, ◌∙◌}
use Rattle.std.proofs.lemmas.Bool.{eqb-true}
use Rattle.std.proofs.lemmas.List.{length-map}
use Rattle.std.proofs.lemmas.List.FromFn.{length-map-range_with_len}
use Rattle.std.proofs.lemmas.Slice.Zip.{AllZip-long}
use Rattle.meta_types.specs.First.{first_that_applies}
use Rattle.cluster_worker.specs.Plan.{is_outside, largest, refusal_of_run}
use Rattle.cluster_worker.specs.Serving.{LifeView, first_lives, life_of, lives_from}
use Rattle.cluster_worker.specs.Worked.{HasWorked}
use Rattle.cluster_worker.specs.declared.fault.ClusterFault.{ClusterFault}
use Rattle.cluster_worker.specs.declared.fault.ClusterFault.TheVariants.{BadLimit, NoSuchNode}
use Rattle.cluster_worker.specs.declared.plan.ClusterPlan.{ClusterPlan}
use Rattle.cluster.specs.Run.{CanRun, IsRunOf}
use Rattle.cluster.specs.declared.run.ClusterRun.{ClusterRun}

-- as many are closed as lived
closed_of : (plan : ClusterPlan) (lives : List LifeView) (run : ClusterRun) → IsRunOf plan lives run → length run.closed.items ≡ length lives
closed_of plan lives run is =
    ap length is.together.closed ∙ length-map is.all _ ∙ AllZip-long (HasWorked plan) lives is.all is.worked

-- it is of so many nodes
abbrev pub IsOfNodes : ℕ → Result ClusterRun ClusterFault → Type 0
IsOfNodes nodes run = IfOk run (λ r. length r.closed.items ≡ nodes)

of_lives : (plan : ClusterPlan) (lives : List LifeView) (nodes : ℕ)
    (run : Result ClusterRun ClusterFault) → length lives ≡ nodes → IfOk run (IsRunOf plan lives)
    → IsOfNodes nodes run
of_lives plan lives nodes (Ok run) many is = closed_of plan lives run is ∙ many
of_lives plan lives nodes (Err fault) many is = tt

pub of_new : (plan : ClusterPlan) (run : Result ClusterRun ClusterFault)
    → IfOk run (IsRunOf plan (first_lives plan.nodes)) → IsOfNodes plan.nodes run
of_new plan run is =
    of_lives plan (first_lives plan.nodes) plan.nodes run (length-map-range_with_len (λ node. life_of node 1 []) 0 plan.nodes) is

-- ---- on devices

lives_are : (node : ℕ) (contents : List (List ℕ)) → length (lives_from node contents) ≡ length contents
lives_are node [] = refl
lives_are node (bytes ∷ later) = ap suc (lives_are (node + 1) later)

none_of : (outside same : Bool) → first_that_applies ((outside, NoSuchNode) ∷ (not same, BadLimit) ∷ []) ≡ None → same ≡ true
none_of true same none = absurd (cc (none))
none_of false false none = absurd (cc (none))
none_of false true none = refl

-- where a run isn't refused at once, there are as many devices as nodes
as_many : (plan : ClusterPlan) (devices : ℕ) → refusal_of_run plan largest devices ≡ None → devices ≡ plan.nodes
as_many plan devices none = eqb-true devices plan.nodes (none_of (is_outside 1 16 plan.nodes) (nat_eq devices plan.nodes) none)

pub of_devices : {D : Type 0} (content : D → List ℕ) (plan : ClusterPlan) (devices : List D)
    (run : Result ClusterRun ClusterFault) → IfOk run (IsRunOf plan (lives_from 0 (map content devices)))
    → OnOk run (CanRun content plan largest devices) → IsOfNodes plan.nodes run
of_devices content plan devices (Ok run) is can =
    let many = lives_are 0 (map content devices) ∙ (length-map devices content ∙ as_many plan (length devices) can.none) in
    of_lives plan (lives_from 0 (map content devices)) plan.nodes (Ok run) many is
of_devices content plan devices (Err fault) is can = tt
