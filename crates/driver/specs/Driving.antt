-- A node with its plan: what a call of a driver does. The rule is our own.
use Rattle.std.specs.Prelude.{◌≡◌, ◌<◌, ◌≤◌, ◌⊎◌, ℕ, Bool, true, false, if◌then◌else◌, List, [], ◌∷◌, ◌++◌, length, Option, Some, None, Result, Ok, Err, nat_eq}
use Rattle.meta_frame.specs.declared.message.Frame.{Frame}
use Rattle.meta_frame.specs.Frame.{Spells}
use Rattle.meta_store.specs.Table.{IsTable}
use Rattle.node_events.specs.declared.event.NodeEvent.{NodeEvent}
use Rattle.node_events.specs.declared.event.NodeEvent.TheVariants as OfNode
use Rattle.node_hosted.specs.Hosting.{Acts, BeginsBatch, HostedParts, MayStep, RefusesActing, with_batch_open}
use Rattle.node_hosted.specs.declared.fault.HostFault.{HostFault}
use Rattle.node_hosted.specs.declared.fault.HostFault.TheVariants.{Memory}
use Rattle.driver.specs.declared.driven.Driven.{Driven}
use Rattle.driver.specs.declared.task.Task.{Task}
use Rattle.driver.specs.declared.task.Task.TheVariants.{Tick, Hello, Join, BeginExchange, PeerDown}
use Rattle.node_hosted.specs.Lasting.{LaterInLife}
use Rattle.driver.specs.Plan.{PlanParts, after, has_member, heard_from, is_given_up, last_time, task_of, with_member}
use Rattle.driver.specs.Duty.{AreTasksAt, FrameCame, KeepMembers, Leads, LinkFailed, PlanChange, tasks_in}

-- a node, and the plan of what it does of itself
pub record Driver : Type 0 where
  pub node : HostedParts
  pub plan : PlanParts

abbrev pub driver_of : HostedParts → PlanParts → Driver
driver_of node plan = record { node = node; plan = plan }

-- ---- tasks

-- what a node is asked to do for a task; the word is random
abbrev pub event_for : (word : ℕ) → Task → NodeEvent
event_for word Tick = OfNode.Tick word
event_for word (Hello n) = OfNode.Hello n
event_for word (Join n) = OfNode.Join n word
event_for word (BeginExchange n) = OfNode.Exchange n
event_for word (PeerDown n) = OfNode.PeerDown n word

abbrev pub neighbours_of : HostedParts → ℕ
neighbours_of n = length n.state.overlay.views.active

-- the task that is next
abbrev pub next_task : (now : ℕ) → Driver → Option Task
next_task now d = task_of now (neighbours_of d.node) d.plan

-- the node makes the step of the task that is next, which is marked as done; the node holds a table
-- then, as every node
pub record DoesTask (now word : ℕ) (old : Driver) (task : Task) (new : Driver) : Type 0 where
  pub next : next_task now old ≡ Some task
  pub acts : Acts old.node (event_for word task) new.node
  pub held : IsTable new.node.state.table
  pub plan : new.plan ≡ after now task old.plan

-- these tasks are done, one after the other
abbrev pub Works : (now word : ℕ) → Driver → List Task → Driver → Type 0
Works now word old [] new = new ≡ old
Works now word old (task ∷ tasks) new =
    (between : Driver) × (DoesTask now word old task between × Works now word between tasks new)

-- the most tasks of a call
abbrev pub most_tasks : ℕ
most_tasks = 24

-- Why no further task is done after so many: none is next, or they are as many as a call does; or
-- the step of the next one is refused with this.
abbrev pub EndsWork : (now word count : ℕ) → Driver → Result (Unit {0}) HostFault → Type 0
EndsWork now word count d (Ok done) = (next_task now d ≡ None) ⊎ (count ≡ most_tasks)
EndsWork now word count d (Err fault) = (task : Task)
    × ((next_task now d ≡ Some task) × RefusesActing d.node (event_for word task) d.node fault)

-- the tasks that are next are done, as many as a call does; this is how that ended
pub record DoesWork (now word : ℕ) (old : Driver) (outcome : Result (Unit {0}) HostFault)
    (new : Driver) : Type 0 where
  pub tasks : List Task
  pub works : Works now word old tasks new
  pub few : length tasks ≤ most_tasks
  pub ends : EndsWork now word (length tasks) new outcome

-- ---- what a call is made for, once those tasks are done

-- the tasks alone; bytes that came; a link to the peer that failed; what the program asks of the
-- node
pub data Purpose : Type 0 where
  OfTime : Purpose
  OfFrame : (bytes : List ℕ) → Purpose
  OfFailure : (peer : ℕ) → Purpose
  OfAsking : (event : NodeEvent) → Purpose

-- the step of the event is made, and this becomes of the plan; or it is refused, and all stays
abbrev pub TriesStep : NodeEvent → (PlanParts → PlanParts → Type 0)
    → Driver → Result (Unit {0}) HostFault → Driver → Type 0
TriesStep event Plans old (Ok done) new =
    Acts old.node event new.node × Plans old.plan new.plan
TriesStep event Plans old (Err fault) new =
    RefusesActing old.node event new.node fault × (new.plan ≡ old.plan)

-- the sender of the frame that the bytes are counts as heard of
pub record HearsSender (now : ℕ) (bytes : List ℕ) (old new : PlanParts) : Type 0 where
  pub frame : Frame
  pub spells : Spells frame bytes
  pub heard : new ≡ heard_from now frame.from old

-- a frame came from this node, if it is known
abbrev pub heard_if_known : (now : ℕ) → Option ℕ → PlanParts → PlanParts
heard_if_known now None p = p
heard_if_known now (Some node) p = heard_from now node p

-- the node is told that a peer is down, unless it is given up already
abbrev pub TellsDown : (now word peer : ℕ) → Bool
    → Driver → Result (Unit {0}) HostFault → Driver → Type 0
TellsDown now word peer true old outcome new = (outcome ≡ Ok tt) × (new ≡ old)
TellsDown now word peer false old outcome new = TriesStep (event_for word (PeerDown peer))
    (λ old new. new ≡ after now (PeerDown peer) old) old outcome new

-- what the call is made for is done, or refused
abbrev pub Fulfils : (now word : ℕ) → Purpose
    → Driver → Result (Unit {0}) HostFault → Driver → Type 0
Fulfils now word OfTime old outcome new = (outcome ≡ Ok tt) × (new ≡ old)
Fulfils now word (OfFrame bytes) old outcome new =
    TriesStep (OfNode.Take bytes word) (HearsSender now bytes) old outcome new
Fulfils now word (OfFailure peer) old outcome new =
    TellsDown now word peer (is_given_up peer old.plan.members) old outcome new
Fulfils now word (OfAsking event) old outcome new =
    TriesStep event (λ old new. new ≡ old) old outcome new

-- ---- a call

abbrev pub with_open_batch : Driver → Driver
with_open_batch d = record d { node = with_batch_open d.node }

abbrev pub with_closed_batch : Driver → Driver
with_closed_batch d = record d { node = record d.node { in_batch = false } }

-- A call is one batch: it begins, the tasks that are next are done, then what the call is made for,
-- and it ends. So nothing is handed out before, and then what all of it gave. How the tasks ended
-- is told, and how what it is made for did.
pub record IsDriverCall (now word : ℕ) (purpose : Purpose) (old : Driver)
    (worked own : Result (Unit {0}) HostFault) (new : Driver) : Type 0 where
  pub ready : MayStep old.node
  pub closed : old.node.in_batch ≡ false
  pub between : Driver
  pub work : DoesWork now word (with_open_batch old) worked between
  pub last : Driver
  pub fulfils : Fulfils now word purpose between own last
  pub ends : new ≡ with_closed_batch last

-- It begins no batch, for this cause, and changes nothing: 34 if the node is stopped, 37 if not all
-- that an earlier call gave was stored and fetched, or if a batch is open.
abbrev pub BeginsNone : Driver → HostFault → Driver → Type 0
BeginsNone old fault new = BeginsBatch old.node (Err fault) new.node × (new.plan ≡ old.plan)

abbrev pub Drives : (now word : ℕ) → Purpose → Driver → Result Driven HostFault → Driver → Type 0
Drives now word purpose old (Ok driven) new =
    IsDriverCall now word purpose old driven.worked driven.own new
Drives now word purpose old (Err fault) new = BeginsNone old fault new

-- a call for the tasks alone, which tells how they ended
abbrev pub DrivesTime : (now word : ℕ) → Driver → Result (Unit {0}) HostFault → Driver → Type 0
DrivesTime now word old (Ok done) new = IsDriverCall now word OfTime old (Ok done) (Ok tt) new
DrivesTime now word old (Err fault) new =
    BeginsNone old fault new ⊎ IsDriverCall now word OfTime old (Err fault) (Ok tt) new

-- ---- members

-- the node isn't a member of its own plan
abbrev pub with_other : (now node : ℕ) → HostedParts → PlanParts → PlanParts
with_other now node n p = if nat_eq node n.state.node then p else with_member now node p

-- ---- laws

-- what becomes of a plan by what the call is made for, if that isn't refused: a frame came from its
-- sender, or the link failed of a peer that isn't given up yet
abbrev pub IsOwnChange : (now : ℕ) → Purpose → PlanParts → Result (Unit {0}) HostFault
    → List PlanChange → Type 0
IsOwnChange now OfTime p outcome changes = changes ≡ []
IsOwnChange now (OfAsking event) p outcome changes = changes ≡ []
IsOwnChange now (OfFrame bytes) p (Ok done) changes =
    (frame : Frame) × (Spells frame bytes × (changes ≡ FrameCame now frame.from ∷ []))
IsOwnChange now (OfFrame bytes) p (Err fault) changes = changes ≡ []
IsOwnChange now (OfFailure peer) p (Ok done) changes =
    changes ≡ (if is_given_up peer p.members then [] else LinkFailed peer ∷ [])
IsOwnChange now (OfFailure peer) p (Err fault) changes = changes ≡ []

-- A call leads from one plan to the other, and keeps the members: by tasks, each of which was next
-- at that time, and which are those whose steps the node made; and then by what the call is made
-- for. So the laws of plans hold of calls.
abbrev pub CallIsLed : Type 0
CallIsLed = (now word : ℕ) (purpose : Purpose) (old new : Driver)
    → (worked own : Result (Unit {0}) HostFault)
    → (call : IsDriverCall now word purpose old worked own new)
    → (tasks its : List PlanChange) × (Leads old.plan (tasks ++ its) new.plan
    × KeepMembers (tasks ++ its) × AreTasksAt now tasks × (tasks_in tasks ≡ call.work.tasks)
    × IsOwnChange now purpose call.between.plan own its)

-- What leads on from where other changes led to follows them: so calls, one after the other, lead
-- from the first plan to the last, with the members that are added and removed in between.
abbrev pub ChangesLeadOn : Type 0
ChangesLeadOn = (old between new : PlanParts) (first later : List PlanChange)
    → Leads old first between → Leads between later new → Leads old (first ++ later) new
    × (KeepMembers first → KeepMembers later → KeepMembers (first ++ later))

-- Nothing is past due once a call has done what is next, unless a task was refused: of a plan with
-- at most 16 members, `tick` and `quiet` of at least 1, and a time before the last one.
abbrev pub NothingIsPastDue : Type 0
NothingIsPastDue = (now word : ℕ) (old new : Driver) → DoesWork now word old (Ok tt) new
    → length old.plan.members ≤ 16 → 1 ≤ old.plan.pace.tick → 1 ≤ old.plan.pace.quiet
    → now < last_time → next_task now new ≡ None

-- A task is refused for want of memory alone, unless the node is a member of its own plan.
abbrev pub OnlyMemoryRefuses : Type 0
OnlyMemoryRefuses = (now word : ℕ) (old new : Driver) (fault : HostFault)
    → DoesWork now word (with_open_batch old) (Err fault) new → old.node.stopped ≡ false
    → has_member old.node.state.node old.plan.members ≡ false → fault ≡ Memory

-- A call is a part of the life of its node, in which its host's file stays as it is: so all that is
-- proved of nodes, their files and their lives holds under a driver.
abbrev pub IsOfOneLife : Purpose → HostedParts → Type 0
IsOfOneLife purpose node = (file : List ℕ) (now word : ℕ) (old : Driver) (plan : PlanParts)
    → (outcome : Result Driven HostFault)
    → Drives now word purpose old outcome (driver_of node plan)
    → LaterInLife (record { file = file; node = old.node }) (record { file = file; node = node })
