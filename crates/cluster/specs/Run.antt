-- What a run of a cluster leaves, and why there is none.
use Rattle.std.specs.Prelude.{◌≡◌, ℕ, List, [], length, map, filter, replicate, sum_by, Some, None}
use Rattle.std.specs.List.{AllZip, flat_map}
use Rattle.node_call.specs.declared.fault.LockFault.TheVariants.{SeatsMissing}
use Rattle.cluster_worker.specs.Frames.{up_to_most}
use Rattle.cluster_worker.specs.Plan.{largest, refusal_of_run}
use Rattle.cluster_worker.specs.Serving.{CanServeAll, CannotServeOne, LifeView}
use Rattle.cluster_worker.specs.Worked.{HasWorked}
use Rattle.cluster_worker.specs.declared.fault.ClusterFault.{ClusterFault}
use Rattle.cluster_worker.specs.declared.fault.ClusterFault.TheVariants.{BadLimit, File, Memory, Node, NoSuchNode, NoThread}
use Rattle.cluster_worker.specs.declared.plan.ClusterPlan.{ClusterPlan}
use Rattle.cluster_worker.specs.declared.plan.Limits.{Limits}
use Rattle.cluster_worker.specs.declared.worker.Worked.{Worked}
use Rattle.cluster.specs.declared.run.ClusterRun.{ClusterRun}

-- what these workers leave, put together in their order
pub record IsPutTogether (all : List Worked) (run : ClusterRun) : Type 0 where
  pub closed : run.closed.items ≡ map (λ w. w.closed) all
  pub receipts : run.receipts.items ≡ flat_map (λ w. w.receipts.items) all
  pub calls : run.calls ≡ up_to_most (sum_by (λ w. length w.closed.journal) all)
  pub lost : run.lost ≡ up_to_most (sum_by (λ w. w.lost) all)
  pub stopped : run.stopped.items ≡ map (λ w. w.node) (filter (λ w. w.is_stopped) all)

-- what the workers of nodes in these lives leave in a run of this plan, put together in the order of
-- the nodes
pub record IsRunOf (plan : ClusterPlan) (lives : List LifeView) (run : ClusterRun) : Type 0 where
  pub all : List Worked
  pub worked : AllZip (HasWorked plan) lives all
  pub together : IsPutTogether all run

-- the contents of `nodes` devices that hold nothing
abbrev pub nothing_on : ℕ → List (List ℕ)
nothing_on nodes = replicate nodes []

-- ---- why there is none

-- what workers end a run with: memory ran out, or a node isn't closed
abbrev pub RefusesGathering : ClusterFault → Type 0
RefusesGathering (Node fault) = fault ≡ SeatsMissing
RefusesGathering Memory = Unit {0}
RefusesGathering fault = ⊥

-- no refusal applies to a run on these devices
pub record CanRun {D : Type 0} (content : D → List ℕ) (plan : ClusterPlan) (limits : Limits)
    (devices : List D) : Type 0 where
  pub none : refusal_of_run plan limits (length devices) ≡ None
  pub served : CanServeAll content devices

-- the refusal that applies; or, if none does, a thread isn't made, a node isn't closed or memory
-- runs out
abbrev pub RefusesRun : {D : Type 0} → (D → List ℕ) → (D → ℕ) → ClusterPlan → Limits → List D
    → ClusterFault → Type 0
RefusesRun content failed plan limits devices NoSuchNode =
    refusal_of_run plan limits (length devices) ≡ Some NoSuchNode
RefusesRun content failed plan limits devices BadLimit =
    refusal_of_run plan limits (length devices) ≡ Some BadLimit
RefusesRun content failed plan limits devices (File fault) =
    (refusal_of_run plan limits (length devices) ≡ None)
    × CannotServeOne content failed devices fault
RefusesRun content failed plan limits devices NoThread = CanRun content plan limits devices
RefusesRun content failed plan limits devices (Node fault) =
    CanRun content plan limits devices × (fault ≡ SeatsMissing)
RefusesRun content failed plan limits devices Memory =
    refusal_of_run plan limits (length devices) ≡ None

-- why there is none on new devices in memory, which don't fail and hold nothing that is refused
abbrev pub RefusesNewRun : ClusterPlan → ClusterFault → Type 0
RefusesNewRun plan NoSuchNode = refusal_of_run plan largest plan.nodes ≡ Some NoSuchNode
RefusesNewRun plan BadLimit = ⊥
RefusesNewRun plan (File fault) = ⊥
RefusesNewRun plan NoThread = refusal_of_run plan largest plan.nodes ≡ None
RefusesNewRun plan (Node fault) =
    (refusal_of_run plan largest plan.nodes ≡ None) × (fault ≡ SeatsMissing)
RefusesNewRun plan Memory = refusal_of_run plan largest plan.nodes ≡ None
