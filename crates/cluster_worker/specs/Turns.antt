-- What a worker has besides its node, and keeps through all turns.
use Rattle.std.specs.Prelude.{◌≡◌, ◌≤◌, ◌+◌, ℕ, Bool, true, false, List, ◌++◌, length, All, Result, Ok, Err}
use Rattle.inbox.specs.Views.{InboxView, TakeView}
use Rattle.node_call.specs.declared.fault.LockFault.TheVariants.{Memory}
use Rattle.node_events.specs.declared.event.NodeEvent.{NodeEvent}
use Rattle.node_journal.specs.declared.receipt.Receipt.{Receipt}
use Rattle.cluster_worker.specs.Frames.{Conveys, up_to_most}
use Rattle.cluster_worker.specs.Passes.{ArePassesOf}
use Rattle.cluster_worker.specs.Serving.{LifeView}
use Rattle.cluster_worker.specs.Worked.{IsReceiptIn, frames_in}
use Rattle.cluster_worker.specs.declared.plan.ClusterPlan.{ClusterPlan}
use Rattle.cluster_worker.specs.declared.turns.Ending.{Ending}
use Rattle.cluster_worker.specs.declared.turns.Ending.TheVariants.{Failed, Stopped}
use Rattle.cluster_worker.specs.declared.turns.Worker.{Worker}

-- it is the worker of a node in this life, in a run of this plan, whose seat has counted `calls`
-- calls: it has passes of these inboxes and a receipt of each call, and no more frames are lost than
-- were sent
pub record IsWorkerOf (plan : ClusterPlan) (inboxes : List InboxView) (life : LifeView) (calls : ℕ)
    (worker : Worker) : Type 0 where
  pub node : worker.node ≡ life.node
  pub passes : ArePassesOf inboxes worker.passes
  pub receipts : All (IsReceiptIn plan life) worker.receipts.items
  pub counted : length worker.receipts.items ≡ calls
  pub lost : worker.lost ≤ frames_in worker.receipts.items

-- a worker asked for these calls, kept the receipts of those that were accepted, and counted the
-- frames that are lost
pub record WorksOn (inboxes : List InboxView) (asked : List NodeEvent) (old new : Worker)
    : Type 0 where
  pub more : List Receipt
  pub receipts : new.receipts.items ≡ old.receipts.items ++ more
  pub lost : ℕ
  pub told : up_to_most new.lost ≡ up_to_most (old.lost + lost)
  pub conveys : Conveys inboxes asked more lost old.passes new.passes

-- the worker, with this pass to take
abbrev pub with_takes : TakeView → Worker → Worker
with_takes takes worker = record worker { passes = record worker.passes { takes = takes } }

-- ---- how turns end

-- turns end the run only if memory runs out, since no call of a node is refused with 52
abbrev pub EndsTurns : Ending → Type 0
EndsTurns Stopped = Unit {0}
EndsTurns (Failed fault) = fault ≡ Memory

-- it is so, unless the turns end the run
abbrev pub UnlessFailed : {A : Type 0} → Result A Ending → Type 0 → Type 0
UnlessFailed (Err (Failed fault)) fact = Unit {0}
UnlessFailed result fact = fact

-- how turns end that don't end the run: the node is stopped, or they are all made
abbrev pub ending_of : Bool → Result (Unit {0}) Ending
ending_of true = Err Stopped
ending_of false = Ok tt
