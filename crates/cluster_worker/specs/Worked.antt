-- What comes of a worker.
use Rattle.std.specs.Prelude.{◌≡◌, ◌≤◌, ◌+◌, ◌⊎◌, ℕ, List, length, sum_by, All, MatchResult, Result}
use Rattle.meta_store.specs.Table.{Table}
use Rattle.node_file.specs.View.{FileView}
use Rattle.node_desk.specs.Desk.{BeganWith}
use Rattle.node_events.specs.declared.event.NodeEvent.{NodeEvent}
use Rattle.node_journal.specs.Closed.{ClosedNode, EndsWithTable}
use Rattle.node_journal.specs.declared.receipt.Receipt.{Receipt}
use Rattle.node_lock.specs.Call.{AnswersCall}
use Rattle.inbox.specs.Views.{InboxView}
use Rattle.node_call.specs.Acknowledged.{Acknowledged}
use Rattle.node_call.specs.declared.fault.LockFault.{LockFault}
use Rattle.node_call.specs.declared.fault.LockFault.TheVariants.{Memory, SeatsMissing}
use Rattle.cluster_worker.specs.Call.{AreAsked, IsAsked}
use Rattle.cluster_worker.specs.Frames.{Conveys, up_to_most}
use Rattle.cluster_worker.specs.Passes.{ArePassesOf}
use Rattle.cluster_worker.specs.Serving.{IsServed, LifeView}
use Rattle.cluster_worker.specs.declared.passes.Passes.{Passes}
use Rattle.cluster_worker.specs.declared.plan.ClusterPlan.{ClusterPlan}
use Rattle.cluster_worker.specs.declared.worker.Worked.{Worked}

-- what is left of a node that was in this life: the base of its journal came from the table that it
-- opened with, and the journal is a run from there that ends with the table that is left
pub record IsLeftOfLife (life : LifeView) (c : ClosedNode) : Type 0 where
  pub began : BeganWith life.node life.incarnation life.opened c.base
  pub run : EndsWithTable c

-- a worker may have been given the receipt by its node in this life: for a call that it may make in
-- a run of this plan, from some state that the node comes to
pub record IsReceiptIn (plan : ClusterPlan) (life : LifeView) (r : Receipt) : Type 0 where
  pub asked : IsAsked plan r.entry.event
  pub given : Acknowledged
  pub is : r ≡ given.receipt
  pub answers : AnswersCall life.node life.incarnation life.opened r.entry.event given

-- how many frames the calls of these receipts sent
abbrev pub frames_in : List Receipt → ℕ
frames_in receipts = sum_by (λ r. length r.entry.outbox) receipts

-- what comes of the worker of a node in this life, in a run of this plan: a receipt for no more
-- calls than the node made steps, and no more frames lost than were sent
pub record HasWorked (plan : ClusterPlan) (life : LifeView) (w : Worked) : Type 0 where
  pub node : w.node ≡ life.node
  pub left : IsLeftOfLife life w.closed
  pub receipts : All (IsReceiptIn plan life) w.receipts.items
  pub counted : length w.receipts.items ≤ w.closed.base.steps + length w.closed.journal
  pub lost : w.lost ≤ frames_in w.receipts.items

-- what became of the frames of a worker that had these passes, in a run of this plan: its calls took
-- those that its pass took, and of those that the calls of its receipts sent the lost ones are
-- counted, while the others were put
pub record HasConveyed (plan : ClusterPlan) (inboxes : List InboxView) (before : Passes)
    (w : Worked) : Type 0 where
  pub asked : List NodeEvent
  pub are : AreAsked plan w.node w.is_stopped asked
  pub lost : ℕ
  pub told : w.lost ≡ up_to_most lost
  pub conveys : Conveys inboxes asked w.receipts.items lost before w.passes

-- why a worker ends the whole run: memory ran out, or seats of its node are missing, so that it
-- isn't closed
abbrev pub EndsRun : LockFault → Type 0
EndsRun fault = (fault ≡ Memory) ⊎ (fault ≡ SeatsMissing)

-- what a worker gets: a file whose life was begun, with its table, and its passes
pub record IsJob {D : Type 0} (content : D → List ℕ) (inboxes : List InboxView) (file : FileView D)
    (held : Table) (passes : Passes) : Type 0 where
  pub served : IsServed content file held
  pub connected : ArePassesOf inboxes passes

-- what comes of the worker of a node in this life, in a run of this plan, if it doesn't end the whole
-- run; or why it ends the run
abbrev pub IsOutcomeOf : ClusterPlan → LifeView → Result Worked LockFault → Type 0
IsOutcomeOf plan life outcome = MatchResult outcome (HasWorked plan life) EndsRun
