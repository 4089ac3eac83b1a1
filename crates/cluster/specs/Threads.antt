-- What the threads of a run do.
use Rattle.std.specs.Prelude.{List, Result}
use Rattle.std.specs.List.{AllZip}
use Rattle.node_call.specs.declared.fault.LockFault.{LockFault}
use Rattle.cluster_worker.specs.Serving.{LifeView}
use Rattle.cluster_worker.specs.Worked.{IsOutcomeOf}
use Rattle.cluster_worker.specs.declared.plan.ClusterPlan.{ClusterPlan}
use Rattle.cluster_worker.specs.declared.worker.Worked.{Worked}

-- what a thread does: it is the worker of a node in this life, in a run of this plan
pub record TaskView : Type 0 where
  pub plan : ClusterPlan
  pub life : LifeView

abbrev pub task_of : ClusterPlan → LifeView → TaskView
task_of plan life = record { plan = plan; life = life }

abbrev pub IsOutcomeOfTask : TaskView → Result Worked LockFault → Type 0
IsOutcomeOfTask task outcome = IsOutcomeOf task.plan task.life outcome

-- what comes of each thread, in their order
abbrev pub AreOutcomesOf : List TaskView → List (Result Worked LockFault) → Type 0
AreOutcomesOf tasks outcomes = AllZip IsOutcomeOfTask tasks outcomes
