-- What a call does is a chain of tasks of the plan, and a part of the life of the node.
use Rattle.std.proofs.Common.{◌≡◌, ◌⊎◌, cond, inl, inr, ℕ, Bool, true, false, List, [], ◌∷◌, ◌++◌, length, Result, Ok, Err, refl, sym, ap, subst, ◌∙◌, arith}
use Rattle.std.specs.Prelude.{IfSome}
use Rattle.dvvset.specs.Object.{IsVector}
use Rattle.meta_store.specs.Table.{IsTable}
use Rattle.node_core.specs.Growing.{context_of_write}
use Rattle.node_events.specs.declared.event.NodeEvent.{NodeEvent}
use Rattle.node_events.specs.declared.event.NodeEvent.TheVariants as OfNode
use Rattle.node_hosted.specs.Hosting.{Acts, BeginsBatch, HostedParts, with_batch_open}
use Rattle.node_hosted.specs.Lasting.{BatchBegan, BatchEnded, Follow, Happens, LaterInLife, Moment, Stepped}
use Rattle.node_hosted.specs.declared.fault.HostFault.{HostFault}
use Rattle.driver.specs.declared.task.Task.{Task}
use Rattle.driver.specs.declared.task.Task.TheVariants.{Tick, Hello, Join, BeginExchange, PeerDown}
use Rattle.driver.specs.Plan.{PlanParts, after, is_given_up}
use Rattle.driver.specs.Duty.{AreTasksAt, FrameCame, KeepMembers, Leads, LinkFailed, PlanChange, TaskDone, tasks_in}
use Rattle.driver.specs.Driving.{CallIsLed, ChangesLeadOn, Driver, Fulfils, HearsSender, IsDriverCall, IsOfOneLife, IsOwnChange, NothingIsPastDue, OfAsking, OfFailure, OfFrame, OfTime, Purpose, TellsDown, TriesStep, Works, driver_of, event_for, neighbours_of, with_open_batch}
use Rattle.driver.proofs.Ending.{tasks_end}
use Rattle.driver.proofs.Leading.{as_many, keep_on, lead_on, tasks_keep}
use Rattle.driver.proofs.Working.{IsOpen, open_after, refused_same}

-- ---- the plan

record IsLed (now : ℕ) (tasks : List Task) (old new : PlanParts) : Type 0 where
  changes : List PlanChange
  leads : Leads old changes new
  at : AreTasksAt now changes
  are : tasks_in changes ≡ tasks

led : (now word : ℕ) (old new : Driver) (tasks : List Task) → Works now word old tasks new → IsLed now tasks old.plan new.plan
led now word old new [] same = record { changes = []; leads = ap (λ (d : Driver). d.plan) same; at = tt; are = refl }
led now word old new (task ∷ tasks) (between, (does, works)) =
    let rest = led now word between new tasks works in
    record {
      changes = TaskDone now (neighbours_of old.node) task ∷ rest.changes;
      leads = (does.next, subst (λ (p : PlanParts). Leads p rest.changes new.plan) does.plan rest.leads);
      at = (refl, rest.at);
      are = ap (λ (ts : List Task). task ∷ ts) rest.are;
    }

pub nothing_is_past_due : NothingIsPastDue
nothing_is_past_due now word old new does members tick quiet early =
    let is = led now word old new does.tasks does.works in
    let few = (tasks_end old.plan new.plan is.changes now is.leads is.at tick early).1 quiet in
    let same = as_many now is.changes is.at ∙ ap (λ (ts : List Task). length ts) is.are in
    elim does.ends [ inl none ↦ none | inr all ↦ absurd (omega (arith, few, same, all, members)) ]

pub changes_lead_on : ChangesLeadOn
changes_lead_on old between new first later leads leads_later = (lead_on old between new first later leads leads_later, keep_on first later)

-- what the call is made for
record OwnLed (now : ℕ) (purpose : Purpose) (outcome : Result (Unit {0}) HostFault) (old new : PlanParts) : Type 0 where
  its : List PlanChange
  leads : Leads old its new
  keep : KeepMembers its
  are : IsOwnChange now purpose old outcome its

failure_led : (now word peer : ℕ) (b : Bool) (old new : Driver) (outcome : Result (Unit {0}) HostFault) → is_given_up peer old.plan.members ≡ b → TellsDown now word peer b old outcome new
    → OwnLed now (OfFailure peer) outcome old.plan new.plan
failure_led now word peer true old new (Ok done) is (ended, same) =
    record { its = []; leads = ap (λ (d : Driver). d.plan) same; keep = tt; are = sym (ap (λ b. cond b [] (LinkFailed peer ∷ [])) is) }
failure_led now word peer true old new (Err fault) is (ended, same) = absurd (cc)
failure_led now word peer false old new (Ok done) is (acts, same) =
    record { its = LinkFailed peer ∷ []; leads = (tt, same); keep = tt; are = sym (ap (λ b. cond b [] (LinkFailed peer ∷ [])) is) }
failure_led now word peer false old new (Err fault) is (refuses, same) = record { its = []; leads = same; keep = tt; are = refl }

own_led : (now word : ℕ) (purpose : Purpose) (old new : Driver) (outcome : Result (Unit {0}) HostFault) → Fulfils now word purpose old outcome new → OwnLed now purpose outcome old.plan new.plan
own_led now word OfTime old new outcome (ended, same) = record { its = []; leads = ap (λ (d : Driver). d.plan) same; keep = tt; are = refl }
own_led now word (OfAsking event) old new (Ok done) (acts, same) = record { its = []; leads = same; keep = tt; are = refl }
own_led now word (OfAsking event) old new (Err fault) (refuses, same) = record { its = []; leads = same; keep = tt; are = refl }
own_led now word (OfFrame bytes) old new (Ok done) (acts, hears) =
    record { its = FrameCame now hears.frame.from ∷ []; leads = (tt, hears.heard); keep = tt; are = (hears.frame, (hears.spells, refl)) }
own_led now word (OfFrame bytes) old new (Err fault) (refuses, same) = record { its = []; leads = same; keep = tt; are = refl }
own_led now word (OfFailure peer) old new outcome tells = failure_led now word peer (is_given_up peer old.plan.members) old new outcome refl tells

pub call_is_led : CallIsLed
call_is_led now word purpose old new worked own call =
    let is = led now word (with_open_batch old) call.between call.work.tasks call.work.works in
    let then = own_led now word purpose call.between call.last own call.fulfils in
    let ends : new.plan ≡ call.last.plan = ap (λ (d : Driver). d.plan) call.ends in
    let all = lead_on old.plan call.between.plan call.last.plan is.changes then.its is.leads then.leads in
    let keep = keep_on is.changes then.its (tasks_keep now is.changes is.at) then.keep in
    (is.changes, then.its, (subst (λ (p : PlanParts). Leads old.plan (is.changes ++ then.its) p) (sym ends) all, keep, is.at, is.are, then.are))

-- ---- the node

abbrev Lives : List ℕ → HostedParts → HostedParts → Type 0
Lives file old new = LaterInLife (record { file = file; node = old }) (record { file = file; node = new })

same_life : (file : List ℕ) (old new : HostedParts) → new ≡ old → Lives file old new
same_life file old new same = ([], ap (λ (n : HostedParts). record { file = file; node = n }) same)

abbrev Follows : Moment → List Moment → Moment → Type 0
Follows first between last = Follow Happens first between last

joined : (first middle last : Moment) (one two : List Moment) → Follows first one middle → Follows middle two last → Follows first (one ++ two) last
joined first middle last [] two same rest = subst (λ (m : Moment). Follows m two last) same rest
joined first middle last (next ∷ one) two (happens, follows) rest = (happens, joined next middle last one two follows rest)

then_lives : (file : List ℕ) (old mid new : HostedParts) → Lives file old mid → Lives file mid new → Lives file old new
then_lives file old mid new (one, follows) (two, rest) =
    (one ++ two, joined (record { file = file; node = old }) (record { file = file; node = mid }) (record { file = file; node = new }) one two follows rest)

one_happens : (file : List ℕ) (old new : HostedParts) → Happens (record { file = file; node = old }) (record { file = file; node = new }) → Lives file old new
one_happens file old new happens = (record { file = file; node = new } ∷ [], (happens, refl))

task_writes_nothing : (word : ℕ) (task : Task) → IfSome (context_of_write (event_for word task)) (λ context. IsVector context.vector)
task_writes_nothing word Tick = tt
task_writes_nothing word (Hello n) = tt
task_writes_nothing word (Join n) = tt
task_writes_nothing word (BeginExchange n) = tt
task_writes_nothing word (PeerDown n) = tt

works_live : (file : List ℕ) (now word : ℕ) (old new : Driver) (tasks : List Task) → Works now word old tasks new → Lives file old.node new.node
works_live file now word old new [] same = same_life file old.node new.node (ap (λ (d : Driver). d.node) same)
works_live file now word old new (task ∷ tasks) (between, (does, works)) =
    then_lives file old.node between.node new.node
    (one_happens file old.node between.node (Stepped (event_for word task) (record { read = task_writes_nothing word task; held = does.held }) does.acts refl))
    (works_live file now word between new tasks works)

-- what a purpose does is nothing, or one step
abbrev IsStep : (NodeEvent → Type 0) → HostedParts → HostedParts → Type 0
IsStep Typed old new = (new ≡ old) ⊎ ((event : NodeEvent) × (Typed event × Acts old event new))

abbrev IsRead : NodeEvent → Type 0
IsRead event = IfSome (context_of_write event) (λ context. IsVector context.vector)

-- what the program asks is read
abbrev pub IsReadFor : Purpose → Type 0
IsReadFor OfTime = Unit {0}
IsReadFor (OfFrame bytes) = Unit {0}
IsReadFor (OfFailure peer) = Unit {0}
IsReadFor (OfAsking event) = IsRead event

made : (event : NodeEvent) (Plans : PlanParts → PlanParts → Type 0) (old : Driver) (outcome : Result (Unit {0}) HostFault) (new : Driver) → IsRead event
    → TriesStep event Plans old outcome new → IsStep IsRead old.node new.node
made event Plans old (Ok done) new typed makes = inr (event, (typed, makes.0))
made event Plans old (Err fault) new typed makes = inl (refused_same old.node event new.node fault makes.0)

told : (now word peer : ℕ) (b : Bool) (old : Driver) (outcome : Result (Unit {0}) HostFault) (new : Driver) → TellsDown now word peer b old outcome new → IsStep IsRead old.node new.node
told now word peer true old outcome new tells = inl (ap (λ (d : Driver). d.node) tells.1)
told now word peer false old outcome new tells = made (event_for word (PeerDown peer)) (λ old new. new ≡ after now (PeerDown peer) old) old outcome new tt tells

own_step : (now word : ℕ) (purpose : Purpose) (old : Driver) (outcome : Result (Unit {0}) HostFault) (new : Driver) → IsReadFor purpose → Fulfils now word purpose old outcome new
    → IsStep IsRead old.node new.node
own_step now word OfTime old outcome new typed is = inl (ap (λ (d : Driver). d.node) is.1)
own_step now word (OfFrame bytes) old outcome new typed is = made (OfNode.Take bytes word) (HearsSender now bytes) old outcome new tt is
own_step now word (OfFailure peer) old outcome new typed is = told now word peer (is_given_up peer old.plan.members) old outcome new is
own_step now word (OfAsking event) old outcome new typed is = made event (λ old new. new ≡ old) old outcome new typed is

still_open : (Typed : NodeEvent → Type 0) (old new : HostedParts) → IsStep Typed old new → IsOpen old → IsOpen new
still_open Typed old new step is =
    elim step [
      | inl same ↦ subst IsOpen (sym same) is
      | inr (event, (typed, acts)) ↦ record { going = acts.going; open_ = acts.batch ∙ is.open_ }
    ]

call_lives : (file : List ℕ) (now word : ℕ) (purpose : Purpose) (old : Driver) (worked own : Result (Unit {0}) HostFault) (new : Driver)
    → IsReadFor purpose → IsTable new.node.state.table → IsDriverCall now word purpose old worked own new → Lives file old.node new.node
call_lives file now word purpose old worked own new typed table call =
    let begun = one_happens file old.node (with_batch_open old.node) (BatchBegan (call.ready, call.closed, refl) refl) in
    let works = works_live file now word (with_open_batch old) call.between call.work.tasks call.work.works in
    let step = own_step now word purpose call.between own call.last typed call.fulfils in
    let open_before : IsOpen call.between.node = open_after now word (with_open_batch old) call.between call.work.tasks call.work.works (record { going = call.ready.going; open_ = refl }) in
    let open_then = still_open IsRead call.between.node call.last.node step open_before in
    let ends_as : new.node ≡ record call.last.node { in_batch = false } = ap (λ (d : Driver). d.node) call.ends in
    let its_table : IsTable call.last.node.state.table = subst IsTable (ap (λ (n : HostedParts). n.state.table) ends_as) table in
    let stepped : Lives file call.between.node call.last.node = elim step [
      | inl same ↦ same_life file call.between.node call.last.node same
      | inr (event, (typed, acts)) ↦ one_happens file call.between.node call.last.node (Stepped event (record { read = typed; held = its_table }) acts refl)
    ] in
    let ended = one_happens file call.last.node new.node (BatchEnded (open_then.going, open_then.open_, ends_as) refl) in
    then_lives file old.node (with_batch_open old.node) new.node begun
    (then_lives file (with_batch_open old.node) call.between.node new.node works (then_lives file call.between.node call.last.node new.node stepped ended))

none_begun : (old : HostedParts) (new : HostedParts) (fault : HostFault) → BeginsBatch old (Err fault) new → new ≡ old
none_begun old new (HostFault.Argument fault) begins = absurd begins
none_begun old new (HostFault.Step fault) begins = absurd begins
none_begun old new HostFault.FileFull begins = absurd begins
none_begun old new HostFault.Stopped begins = begins.1
none_begun old new HostFault.Pending begins = begins.2
none_begun old new HostFault.Nothing begins = absurd begins
none_begun old new HostFault.NoSuchRead begins = absurd begins
none_begun old new HostFault.Memory begins = absurd begins

pub lives : (purpose : Purpose) (node : HostedParts) → IsReadFor purpose → IsTable node.state.table → IsOfOneLife purpose node
lives purpose node typed table file now word old plan (Ok driven) call = call_lives file now word purpose old driven.worked driven.own (driver_of node plan) typed table call
lives purpose node typed table file now word old plan (Err fault) none = same_life file old.node node (none_begun old.node node fault none.0)
