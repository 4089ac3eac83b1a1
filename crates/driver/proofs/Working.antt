-- Tasks are done one after the other, in a batch that stays open.
use Rattle.std.proofs.Common.{◌≡◌, ℕ, Bool, true, false, inr, Result, Ok, Err, OnOk, IfErr, List, [], ◌∷◌, ◌++◌, refl, sym, subst, ◌∙◌}
use Rattle.node_events.specs.declared.event.NodeEvent.{NodeEvent}
use Rattle.node_hosted.specs.Hosting.{Acts, BeginsBatch, HostedParts, RefusesActing}
use Rattle.node_hosted.specs.declared.fault.HostFault.{HostFault}
use Rattle.node_hosted.specs.declared.fault.HostFault.TheVariants.{Argument, Step, FileFull, Stopped, Pending, Nothing, NoSuchRead, Memory}
use Rattle.driver.specs.declared.task.Task.{Task}
use Rattle.driver.specs.declared.task.Task.TheVariants.{PeerDown}
use Rattle.driver.specs.Plan.{PlanParts, after}
use Rattle.driver.specs.Driving.{DoesTask, DoesWork, Driver, DrivesTime, IsDriverCall, OfTime, TellsDown, TriesStep, Works, driver_of, event_for}

-- a refused step leaves the node as it was
pub refused_same : (old : HostedParts) (event : NodeEvent) (new : HostedParts) (fault : HostFault) → RefusesActing old event new fault → new ≡ old
refused_same old event new (Argument fault) why = absurd why
refused_same old event new (Step fault) why = why.2
refused_same old event new FileFull why = why.2
refused_same old event new Stopped why = why.1
refused_same old event new Pending why = why.2
refused_same old event new Nothing why = absurd why
refused_same old event new NoSuchRead why = absurd why
refused_same old event new Memory why = why.1

-- one more task is done
pub works_more : (now word : ℕ) (old mid new : Driver) (tasks : List Task) (task : Task) → Works now word old tasks mid → DoesTask now word mid task new
    → Works now word old (tasks ++ task ∷ []) new
works_more now word old mid new [] task same does = (new, (subst (λ d. DoesTask now word d task new) same does, refl))
works_more now word old mid new (first ∷ tasks) task (between, (was, works)) does = (between, (was, works_more now word between mid new tasks task works does))

-- a batch is open
pub record IsOpen (n : HostedParts) : Type 0 where
  pub going : n.stopped ≡ false
  pub open_ : n.in_batch ≡ true

pub open_after : (now word : ℕ) (old new : Driver) (tasks : List Task) → Works now word old tasks new → IsOpen old.node → IsOpen new.node
open_after now word old new [] same is = subst (λ (d : Driver). IsOpen d.node) (sym same) is
open_after now word old new (task ∷ tasks) (between, (does, works)) is =
    open_after now word between new tasks works (record { going = does.acts.going; open_ = does.acts.batch ∙ is.open_ })

-- it is open once it began, once tasks were done, and once a step was made or refused
pub opened : (old new : HostedParts) → BeginsBatch old (Ok tt) new → IsOpen new
opened old new (ready, closed, begun) = subst IsOpen (sym begun) (record { going = ready.going; open_ = refl })

pub worked_open : (now word : ℕ) (old new : Driver) (outcome : Result (Unit {0}) HostFault) → DoesWork now word old outcome new → IsOpen old.node → IsOpen new.node
worked_open now word old new outcome works is = open_after now word old new works.tasks works.works is

pub made_open : (event : NodeEvent) (Plans : PlanParts → PlanParts → Type 0) (old new : Driver) (outcome : Result (Unit {0}) HostFault) → TriesStep event Plans old outcome new
    → IsOpen old.node → IsOpen new.node
made_open event Plans old new (Ok done) (acts, plan) is = record { going = acts.going; open_ = acts.batch ∙ is.open_ }
made_open event Plans old new (Err fault) (refuses, plan) is = subst IsOpen (sym (refused_same old.node event new.node fault refuses)) is

pub told_open : (now word peer : ℕ) (b : Bool) (old new : Driver) (outcome : Result (Unit {0}) HostFault) → TellsDown now word peer b old outcome new → IsOpen old.node → IsOpen new.node
told_open now word peer true old new outcome tells is = subst (λ (d : Driver). IsOpen d.node) (sym tells.1) is
told_open now word peer false old new outcome tells is = made_open (event_for word (PeerDown peer)) (λ old new. new ≡ after now (PeerDown peer) old) old new outcome tells is

-- the step of what the program asks, which leaves the plan as it is
abbrev pub Stays : PlanParts → PlanParts → Type 0
Stays old new = new ≡ old

pub acted : (event : NodeEvent) (plan : PlanParts) (old new : HostedParts) (outcome : Result (Unit {0}) HostFault) → OnOk outcome (Acts old event new)
    → IfErr outcome (RefusesActing old event new) → TriesStep event Stays (driver_of old plan) outcome (driver_of new plan)
acted event plan old new (Ok done) acts refuses = (acts, refl)
acted event plan old new (Err fault) acts refuses = (refuses, refl)

-- a call for the tasks alone
pub time_driven : (now word : ℕ) (old new : Driver) (outcome : Result (Unit {0}) HostFault) → IsDriverCall now word OfTime old outcome (Ok tt) new → DrivesTime now word old outcome new
time_driven now word old new (Ok done) call = call
time_driven now word old new (Err fault) call = inr call
