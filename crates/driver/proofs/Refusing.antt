-- A task is refused for want of memory alone.
use Rattle.std.proofs.Common.{◌≡◌, inl, inr, ℕ, Bool, true, false, not, ◌&&◌, ◌||◌, cond, nat_eq, nat_lt, is_some, List, [], ◌∷◌, length, Option, Some, None, refl, sym, ap, subst, ◌∙◌, eq-eqb}
use Rattle.std.specs.Prelude.{slice_get}
use Rattle.std.proofs.lemmas.Bool.{and_parts, eqb-true, or_cases, or_left, or_right}
use Rattle.node_events.specs.declared.event.NodeEvent.{NodeEvent}
use Rattle.node_events.specs.declared.fault.StepFault.{StepFault}
use Rattle.node_events.specs.declared.fault.StepFault.TheVariants.{BadNode}
use Rattle.node_core.specs.Node.{NodeParts}
use Rattle.node_core.specs.Rows.{Input, IsInput, Local, Received}
use Rattle.node_core.specs.Run.{EachStepCounts}
use Rattle.node_core.specs.Step.{IsNoFrame, refusal_of, refusal_of_event}
use Rattle.node_hosted.specs.Hosting.{HostedParts, IsOverfullWith, Overfills, RefusesActing, next_gate}
use Rattle.node_hosted.specs.Unstored.{spelled}
use Rattle.node_hosted.specs.declared.fault.HostFault.{HostFault}
use Rattle.node_hosted.specs.declared.fault.HostFault.TheVariants.{Argument, Step, FileFull, Stopped, Pending, Nothing, NoSuchRead, Memory}
use Rattle.driver.specs.declared.member.Member.{Member}
use Rattle.driver.specs.declared.member.MemberChange.{MemberChange}
use Rattle.driver.specs.declared.member.MemberChange.TheVariants.{Greeted, GivenUp, Tried}
use Rattle.driver.specs.declared.task.Task.{Task}
use Rattle.driver.specs.declared.task.Task.TheVariants.{Tick, Hello, Join, BeginExchange, PeerDown}
use Rattle.driver.specs.Plan.{PlanParts, after, all_learn, has_member, has_member_that, learn, task_of}
use Rattle.driver.specs.Driving.{Driver, OnlyMemoryRefuses, Works, event_for, neighbours_of, with_open_batch}
use Rattle.driver.proofs.Members.{any_at, any_map_same, learn_node}
use Rattle.driver.proofs.Tasks.{down_due, exchange_there, hello_due, join_due}
use Rattle.driver.proofs.Working.{IsOpen, open_after}

-- ---- a task is for a member

at_place : (members : List Member) (at n : ℕ) (m : Member) → slice_get members at ≡ Some m → m.node ≡ n → has_member n members ≡ true
at_place members at n m there its = any_at (λ k. nat_eq k.node n) members at m there (eq-eqb m.node n its)

of_any : (g : Member → Bool) (n : ℕ) (members : List Member) → has_member_that g n members ≡ true → has_member n members ≡ true
of_any g n [] any = any
of_any g n (m ∷ members) any =
    elim (or_cases (nat_eq m.node n && g m) (has_member_that g n members) any) [
      | inl here ↦ or_left _ _ (and_parts (nat_eq m.node n) (g m) here).0
      | inr later ↦ or_right _ _ (of_any g n members later)
    ]

-- a task names no node, or a member
abbrev IsForMember : List Member → Task → Type 0
IsForMember members Tick = Unit {0}
IsForMember members (Hello n) = has_member n members ≡ true
IsForMember members (Join n) = has_member n members ≡ true
IsForMember members (BeginExchange n) = has_member n members ≡ true
IsForMember members (PeerDown n) = has_member n members ≡ true

for_member : (now neighbours : ℕ) (p : PlanParts) (task : Task) → task_of now neighbours p ≡ Some task → IsForMember p.members task
for_member now neighbours p Tick is = tt
for_member now neighbours p (Hello n) is = let due = hello_due now neighbours p n is in at_place p.members p.contact n due.member due.there due.its_node
for_member now neighbours p (Join n) is = let due = join_due now neighbours p n is in at_place p.members p.contact n due.member due.there due.its_node
for_member now neighbours p (BeginExchange n) is = let found = exchange_there now neighbours p n is in at_place p.members p.partner n found.0 found.1.0 found.1.1
for_member now neighbours p (PeerDown n) is = of_any (λ m. not m.is_down) n p.members (down_due now neighbours p n is).0

-- ---- the node stays no member

same_member : (n : ℕ) (change : MemberChange) (k : ℕ) (members : List Member) → has_member n (all_learn change k members) ≡ has_member n members
same_member n change k members = any_map_same (λ m. nat_eq m.node n) (learn change k) members (λ m. ap (λ x. nat_eq x n) (learn_node change k m))

after_same : (n now : ℕ) (task : Task) (p : PlanParts) → has_member n (after now task p).members ≡ has_member n p.members
after_same n now Tick p = refl
after_same n now (Join k) p = same_member n (Tried now) k p.members
after_same n now (BeginExchange k) p = refl
after_same n now (Hello k) p = same_member n Greeted k p.members
after_same n now (PeerDown k) p = same_member n GivenUp k p.members

abbrev IsNoMember : Driver → Type 0
IsNoMember d = has_member d.node.state.node d.plan.members ≡ false

stays_none : EachStepCounts → (now word : ℕ) (old new : Driver) (tasks : List Task) → Works now word old tasks new → IsNoMember old → IsNoMember new
stays_none counts now word old new [] same none = subst IsNoMember (sym same) none
stays_none counts now word old new (task ∷ tasks) (between, (does, works)) none =
    let acts = does.acts in
    let node = (counts.step old.node.state (event_for word task) between.node.state acts.stepped acts.step).node in
    let then = ap (λ (p : PlanParts). has_member between.node.state.node p.members) does.plan ∙ after_same between.node.state.node now task old.plan
    ∙ ap (λ n. has_member n old.plan.members) node ∙ none in
    stays_none counts now word between new tasks works then

-- ---- why it is refused

no_refusal : (b : Bool) (n own : ℕ) (fault : StepFault) (first : StepFault) → nat_eq n own ≡ b → cond b (Some first) None ≡ Some fault → n ≡ own
no_refusal true n own fault first is refused = eqb-true n own is
no_refusal false n own fault first is refused = absurd (cc)

itself : (members : List Member) (n own : ℕ) → has_member n members ≡ true → has_member own members ≡ false → n ≡ own → ⊥
itself members n own is none same = let clash = sym is ∙ ap (λ k. has_member k members) same ∙ none in absurd (cc)

local_of : (word : ℕ) (task : Task) (input : Input) (s : NodeParts) (fault : StepFault) → IsInput (event_for word task) input → refusal_of input s ≡ Some fault
    → refusal_of_event (event_for word task) s ≡ Some fault
local_of word Tick (Local same) s fault is first = subst (λ (e : NodeEvent). refusal_of_event e s ≡ Some fault) is first
local_of word (Hello n) (Local same) s fault is first = subst (λ (e : NodeEvent). refusal_of_event e s ≡ Some fault) is first
local_of word (Join n) (Local same) s fault is first = subst (λ (e : NodeEvent). refusal_of_event e s ≡ Some fault) is first
local_of word (BeginExchange n) (Local same) s fault is first = subst (λ (e : NodeEvent). refusal_of_event e s ≡ Some fault) is first
local_of word (PeerDown n) (Local same) s fault is first = subst (λ (e : NodeEvent). refusal_of_event e s ≡ Some fault) is first
local_of word Tick (Received frame w) s fault is first = absurd is
local_of word (Hello n) (Received frame w) s fault is first = absurd is
local_of word (Join n) (Received frame w) s fault is first = absurd is
local_of word (BeginExchange n) (Received frame w) s fault is first = absurd is
local_of word (PeerDown n) (Received frame w) s fault is first = absurd is

never : (members : List Member) (s : NodeParts) (word : ℕ) (task : Task) (fault : StepFault) → IsForMember members task → has_member s.node members ≡ false
    → refusal_of_event (event_for word task) s ≡ Some fault → ⊥
never members s word Tick fault its none refused = absurd (cc)
never members s word (Hello n) fault its none refused = itself members n s.node its none (no_refusal (nat_eq n s.node) n s.node fault BadNode refl refused)
never members s word (Join n) fault its none refused = itself members n s.node its none (no_refusal (nat_eq n s.node) n s.node fault BadNode refl refused)
never members s word (BeginExchange n) fault its none refused = itself members n s.node its none (no_refusal (nat_eq n s.node) n s.node fault BadNode refl refused)
never members s word (PeerDown n) fault its none refused = itself members n s.node its none (no_refusal (nat_eq n s.node) n s.node fault BadNode refl refused)

no_frame : (word : ℕ) (task : Task) (fault : StepFault) → IsNoFrame (event_for word task) fault → ⊥
no_frame word Tick fault is = is
no_frame word (Hello n) fault is = is
no_frame word (Join n) fault is = is
no_frame word (BeginExchange n) fault is = is
no_frame word (PeerDown n) fault is = is

fits : (gate : Option ℕ) → IsOverfullWith gate None → ⊥
fits None full = full
fits (Some at) full = full

not_full : (word : ℕ) (task : Task) (old : HostedParts) → Overfills old (event_for word task) → ⊥
not_full word Tick old over = fits (next_gate old) over.full
not_full word (Hello n) old over = fits (next_gate old) over.full
not_full word (Join n) old over = fits (next_gate old) over.full
not_full word (BeginExchange n) old over = fits (next_gate old) over.full
not_full word (PeerDown n) old over = fits (next_gate old) over.full

refused : (members : List Member) (n : HostedParts) (word : ℕ) (task : Task) (fault : HostFault) → IsOpen n → IsForMember members task → has_member n.state.node members ≡ false
    → RefusesActing n (event_for word task) n fault → fault ≡ Memory
refused members n word task (Argument fault) is its none why = absurd why
refused members n word task (Step fault) is its none why =
    elim why.1 [
      | inl no_such ↦ absurd (no_frame word task fault no_such)
      | inr refuses ↦ absurd (never members n.state word task fault its none (local_of word task refuses.input n.state fault refuses.is_input refuses.first))
    ]
refused members n word task FileFull is its none why = absurd (not_full word task n why.1)
refused members n word task Stopped is its none why = let clash = sym why.0 ∙ is.going in absurd (cc)
refused members n word task Pending is its none why =
    let closed = (and_parts (not n.in_batch) (is_some (spelled n.to_store) || nat_lt n.sent (length n.outbox)) why.1).0 in
    let clash = sym closed ∙ ap not is.open_ in
    absurd (cc)
refused members n word task Nothing is its none why = absurd why
refused members n word task NoSuchRead is its none why = absurd why
refused members n word task Memory is its none why = refl

pub only_memory_refuses : EachStepCounts → OnlyMemoryRefuses
only_memory_refuses counts now word old new fault works going none =
    let begun = with_open_batch old in
    let is = open_after now word begun new works.tasks works.works (record { going = going; open_ = refl }) in
    let still = stays_none counts now word begun new works.tasks works.works none in
    let task = works.ends.0 in
    refused new.plan.members new.node word task fault is (for_member now (neighbours_of new.node) new.plan task works.ends.1.0) still works.ends.1.1
