-- What comes of a driver's tasks, one after the other. The rule is our own.
use Rattle.std.specs.Prelude.{◌≡◌, ◌<◌, ◌≤◌, ◌+◌, ◌⊎◌, ℕ, zero, suc, Bool, true, false, if◌then◌else◌, List, [], ◌∷◌, ◌++◌, length, map, slice_get, Some}
use Rattle.std.specs.Option.{unwrap_or}
use Rattle.peer_lists.specs.Lists.{has}
use Rattle.driver.specs.declared.member.Member.{Member}
use Rattle.driver.specs.declared.task.Task.{Task}
use Rattle.driver.specs.declared.task.Task.TheVariants.{Tick, Hello, Join, BeginExchange, PeerDown}
use Rattle.driver.specs.Plan.{IsPlaceIn, PlanParts, after, are_few, has_member, has_member_that, heard_from, is_given_up, last_time, next_place, task_of, with_member, without_member}

-- one change of a plan: at this time, with so many neighbours, its next task is done; a frame came
-- from a node; a link to a node failed; a node is added, or removed
pub data PlanChange : Type 0 where
  TaskDone : (now neighbours : ℕ) → Task → PlanChange
  FrameCame : (now node : ℕ) → PlanChange
  LinkFailed : (node : ℕ) → PlanChange
  MemberAdded : (now node : ℕ) → PlanChange
  MemberRemoved : (node : ℕ) → PlanChange

-- a task is done only if it is next
abbrev pub CanHappen : PlanChange → PlanParts → Type 0
CanHappen (TaskDone now neighbours task) p = task_of now neighbours p ≡ Some task
CanHappen change p = Unit {0}

-- whose link failed is given up
abbrev pub plan_after : PlanChange → PlanParts → PlanParts
plan_after (TaskDone now neighbours task) p = after now task p
plan_after (FrameCame now node) p = heard_from now node p
plan_after (LinkFailed node) p = after 0 (PeerDown node) p
plan_after (MemberAdded now node) p = with_member now node p
plan_after (MemberRemoved node) p = without_member node p

-- these changes, one after the other, lead from one plan to the other
abbrev pub Leads : PlanParts → List PlanChange → PlanParts → Type 0
Leads old [] new = new ≡ old
Leads old (change ∷ rest) new =
    CanHappen change old × Leads (plan_after change old) rest new

-- no member is added or removed
abbrev pub KeepMembers : List PlanChange → Type 0
KeepMembers [] = Unit {0}
KeepMembers (MemberAdded now node ∷ rest) = ⊥
KeepMembers (MemberRemoved node ∷ rest) = ⊥
KeepMembers (change ∷ rest) = KeepMembers rest

-- ---- what was done

abbrev pub tasks_in : List PlanChange → List Task
tasks_in [] = []
tasks_in (TaskDone now neighbours task ∷ rest) = task ∷ tasks_in rest
tasks_in (change ∷ rest) = tasks_in rest

abbrev pub ticks_in : List PlanChange → ℕ
ticks_in [] = 0
ticks_in (TaskDone now neighbours Tick ∷ rest) = suc (ticks_in rest)
ticks_in (change ∷ rest) = ticks_in rest

-- with whom exchanges were begun, in their order
abbrev pub partners_in : List PlanChange → List ℕ
partners_in [] = []
partners_in (TaskDone now neighbours (BeginExchange n) ∷ rest) = n ∷ partners_in rest
partners_in (change ∷ rest) = partners_in rest

-- through whom joins were begun
abbrev pub contacts_in : List PlanChange → List ℕ
contacts_in [] = []
contacts_in (TaskDone now neighbours (Join n) ∷ rest) = n ∷ contacts_in rest
contacts_in (change ∷ rest) = contacts_in rest

-- to whom a hello was said
abbrev pub greeted_in : List PlanChange → List ℕ
greeted_in [] = []
greeted_in (TaskDone now neighbours (Hello n) ∷ rest) = n ∷ greeted_in rest
greeted_in (change ∷ rest) = greeted_in rest

-- from whom frames came
abbrev pub heard_in : List PlanChange → List ℕ
heard_in [] = []
heard_in (FrameCame now n ∷ rest) = n ∷ heard_in rest
heard_in (change ∷ rest) = heard_in rest

-- of whom the node is told that they are down, if this happens
abbrev pub told_down : PlanChange → PlanParts → List ℕ
told_down (TaskDone now neighbours (PeerDown n)) p = n ∷ []
told_down (LinkFailed n) p = if is_given_up n p.members then [] else n ∷ []
told_down change p = []

-- of whom it is told so, beginning with this plan
abbrev pub downs_in : PlanParts → List PlanChange → List ℕ
downs_in old [] = []
downs_in old (change ∷ rest) =
    told_down change old ++ downs_in (plan_after change old) rest

-- ---- in turn

abbrev pub nodes_of : List Member → List ℕ
nodes_of members = map (λ m. m.node) members

-- the node at this place
abbrev pub number_at : List ℕ → ℕ → ℕ
number_at nodes at = unwrap_or (slice_get nodes at) 0

-- so many of these nodes from this place on, one after the other, and after the last one the first
-- again
abbrev pub round_from : (count : ℕ) → (at : ℕ) → List ℕ → List ℕ
round_from zero at nodes = []
round_from (suc more) at nodes = number_at nodes at
    ∷ round_from more (next_place (length nodes) at) nodes

abbrev pub one_if : Bool → ℕ
one_if owes = if owes then 1 else 0

-- While no member is added or removed, exchanges are begun with the members in turn (round robin),
-- whoever of them answered or failed; and each tick of a driver that has a member is followed by
-- one exchange, before the next tick. So with k members, k ticks pass from one exchange with a
-- member to the next.
abbrev pub ExchangesGoRound : Type 0
ExchangesGoRound = (old new : PlanParts) (changes : List PlanChange)
    → Leads old changes new → KeepMembers changes → 0 < length old.members
    → (partners_in changes
    ≡ round_from (length (partners_in changes)) old.partner (nodes_of old.members))
    × (length (partners_in changes) + one_if new.owes_exchange
    ≡ ticks_in changes + one_if old.owes_exchange)

-- So as many exchanges as there are members are with each of them: two nodes whose drivers have
-- each begun as many have each begun one with the other.
abbrev pub EachHasItsTurn : Type 0
EachHasItsTurn = (old new : PlanParts) (changes : List PlanChange) (n : ℕ)
    → Leads old changes new → KeepMembers changes → IsPlaceIn old.members old.partner
    → length old.members ≤ length (partners_in changes) → has_member n old.members ≡ true
    → has (partners_in changes) n ≡ true

-- Joins are begun through the members in turn, too.
abbrev pub JoinsGoRound : Type 0
JoinsGoRound = (old new : PlanParts) (changes : List PlanChange)
    → Leads old changes new → KeepMembers changes
    → contacts_in changes
    ≡ round_from (length (contacts_in changes)) old.contact (nodes_of old.members)

-- a hello to the node, or a join through it
abbrev pub IsForJoin : ℕ → Task → Type 0
IsForJoin n (Hello node) = node ≡ n
IsForJoin n (Join node) = node ≡ n
IsForJoin n task = ⊥

-- After a tick, and until a join is begun, nothing is done while neighbours are few but a hello to
-- the member whose turn it is, and then the join through it.
abbrev pub JoinsComeFirst : Type 0
JoinsComeFirst = (old new : PlanParts) (between : List PlanChange)
    → (now neighbours later few : ℕ) (task : Task)
    → Leads old (TaskDone now neighbours Tick ∷ between ++ TaskDone later few task ∷ []) new
    → KeepMembers between → contacts_in between ≡ [] → are_few few old.members ≡ true
    → IsForJoin (number_at (nodes_of old.members) old.contact) task

-- ---- hellos

-- a hello was said to some member of the node
abbrev pub is_greeted : ℕ → List Member → Bool
is_greeted node members = has_member_that (λ m. m.is_greeted) node members

-- Before a join through a member a hello was said to it.
abbrev pub HellosComeFirst : Type 0
HellosComeFirst = (old new : PlanParts) (before : List PlanChange) (now neighbours n : ℕ)
    → Leads old (before ++ TaskDone now neighbours (Join n) ∷ []) new
    → (is_greeted n old.members ≡ true) ⊎ (has (greeted_in before) n ≡ true)

-- While no member is added or removed, a hello is said to each of them once.
abbrev pub HellosComeOnce : Type 0
HellosComeOnce = (old new : PlanParts) (rest : List PlanChange) (now neighbours n : ℕ)
    → Leads old (TaskDone now neighbours (Hello n) ∷ rest) new → KeepMembers rest
    → has (greeted_in rest) n ≡ false

-- ---- at one time

-- each of these is a task that is done at this time
abbrev pub AreTasksAt : (now : ℕ) → List PlanChange → Type 0
AreTasksAt now [] = Unit {0}
AreTasksAt now (TaskDone at neighbours task ∷ rest) = (at ≡ now) × AreTasksAt now rest
AreTasksAt now (change ∷ rest) = ⊥

-- At one time the tasks come to an end: there is one tick at most, and, if nobody counts as silent
-- at once, there are seven tasks at most, and one more for each member.
abbrev pub TasksEnd : Type 0
TasksEnd = (old new : PlanParts) (changes : List PlanChange) (now : ℕ)
    → Leads old changes new → AreTasksAt now changes → 1 ≤ old.pace.tick → now < last_time
    → (ticks_in changes ≤ 1)
    × (1 ≤ old.pace.quiet → length changes ≤ 7 + length old.members)

-- ---- who is down

-- a member is given up, since it was silent or its link failed
abbrev pub IsGivingUp : ℕ → PlanChange → Type 0
IsGivingUp n (TaskDone now neighbours (PeerDown node)) = node ≡ n
IsGivingUp n (LinkFailed node) = node ≡ n
IsGivingUp n change = ⊥

-- Once a member was given up, and until a frame comes from it or a join through it is begun, the
-- node isn't told again that it is down.
abbrev pub DownsComeOnce : Type 0
DownsComeOnce = (old new : PlanParts) (first : PlanChange) (rest : List PlanChange) (n : ℕ)
    → Leads old (first ∷ rest) new → KeepMembers rest → has_member n old.members ≡ true
    → IsGivingUp n first → has (heard_in rest) n ≡ false → has (contacts_in rest) n ≡ false
    → has (downs_in (plan_after first old) rest) n ≡ false

-- A member through which a join is begun isn't given up any more: if it fails, the node is told
-- again.
abbrev pub JoinedCountsAsUp : Type 0
JoinedCountsAsUp = (old new : PlanParts) (now neighbours n : ℕ)
    → Leads old (TaskDone now neighbours (Join n) ∷ []) new → is_given_up n new.members ≡ false
