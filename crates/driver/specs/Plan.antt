-- What a driver does next: when a tick is due, with whom an exchange is begun, through whom the
-- node joins, and who is given up. The rule is our own.
use Rattle.std.specs.Prelude.{◌≡◌, ◌<◌, ◌⊎◌, ◌+◌, ℕ, nat_le, nat_lt, min, Bool, true, false, not, ◌&&◌, ◌||◌, if◌then◌else◌, List, [], ◌∷◌, ◌++◌, length, map, filter, nat_eq, slice_get, Option, Some, None}
use Rattle.std.specs.List.{list_any}
use Rattle.driver.specs.declared.member.Member.{Member}
use Rattle.driver.specs.declared.member.MemberChange.{MemberChange}
use Rattle.driver.specs.declared.member.MemberChange.TheVariants.{Greeted, GivenUp, Heard, Tried}
use Rattle.driver.specs.declared.plan.Pace.{Pace}
use Rattle.driver.specs.declared.task.Task.{Task}
use Rattle.driver.specs.declared.task.Task.TheVariants.{Tick, Hello, Join, BeginExchange, PeerDown}

-- the pace; the other nodes; the places of the member through which the next join is, and of that
-- with which the next exchange is; when the next tick is due; whether a join and an exchange are
-- owed for the last one
pub record PlanParts : Type 0 where
  pub pace : Pace
  pub members : List Member
  pub contact : ℕ
  pub partner : ℕ
  pub due : ℕ
  pub owes_join : Bool
  pub owes_exchange : Bool

-- nobody is known, and the first tick is due
abbrev pub new_plan : Pace → ℕ → PlanParts
new_plan pace now = record {
  pace = pace;
  members = [];
  contact = 0;
  partner = 0;
  due = now;
  owes_join = false;
  owes_exchange = false;
}

-- ---- members

abbrev pub made : MemberChange → Member → Member
made Greeted m = record m { is_greeted = true }
made GivenUp m = record m { is_down = true }
made (Heard now) m = record m { heard = now; is_down = false }
made (Tried now) m = if m.is_down then record m { heard = now; is_down = false } else m

-- the member, once this became of the node
abbrev pub learn : MemberChange → ℕ → Member → Member
learn change node m = if nat_eq m.node node then made change m else m

abbrev pub all_learn : MemberChange → ℕ → List Member → List Member
all_learn change node members = map (learn change node) members

-- the members but that of the node; one that is added now; whether there is one
abbrev pub is_of_another : ℕ → Member → Bool
is_of_another node m = not (nat_eq m.node node)

abbrev pub others : ℕ → List Member → List Member
others node members = filter (is_of_another node) members

abbrev pub new_member : (now node : ℕ) → Member
new_member now node =
    record { node = node; heard = now; is_greeted = false; is_down = false }

abbrev pub has_member : ℕ → List Member → Bool
has_member node members = list_any (λ m. nat_eq m.node node) members

-- some member of the node passes the test
abbrev pub has_member_that : (Member → Bool) → ℕ → List Member → Bool
has_member_that test node members = list_any (λ m. nat_eq m.node node && test m) members

-- the node was given up, and since then no frame came from it, and no join through it was begun
abbrev pub is_given_up : ℕ → List Member → Bool
is_given_up node members = has_member_that (λ m. m.is_down) node members

-- it sent nothing for so long, and isn't given up yet
abbrev pub is_silent : ℕ → ℕ → Member → Bool
is_silent quiet now m = not m.is_down && nat_le (m.heard + quiet) now

-- ---- what is next

-- a node with as many neighbours joins no more
abbrev pub enough : ℕ
enough = 3

-- the neighbours are fewer than that, and than all other nodes
abbrev pub are_few : ℕ → List Member → Bool
are_few neighbours members = nat_lt neighbours (min enough (length members))

-- a join through the member, or the hello that comes before the first
abbrev pub join_task : Option Member → Option Task
join_task None = None
join_task (Some m) = if m.is_greeted then Some (Join m.node) else Some (Hello m.node)

abbrev pub exchange_task : Option Member → Option Task
exchange_task None = None
exchange_task (Some m) = Some (BeginExchange m.node)

-- the first that is silent is given up
abbrev pub down_task : ℕ → ℕ → List Member → Option Task
down_task quiet now [] = None
down_task quiet now (m ∷ members) =
    if is_silent quiet now m then Some (PeerDown m.node) else down_task quiet now members

-- what is owed for the last tick, first the join if neighbours are few; the next tick, if it is
-- due; otherwise who is silent
abbrev pub task_of : (now neighbours : ℕ) → PlanParts → Option Task
task_of now neighbours p =
    if p.owes_join && are_few neighbours p.members
    then join_task (slice_get p.members p.contact)
    else if p.owes_exchange then exchange_task (slice_get p.members p.partner)
    else if nat_le p.due now then Some Tick
    else down_task p.pace.quiet now p.members

-- ---- when something is next

-- something is owed
abbrev pub is_owed : (neighbours : ℕ) → PlanParts → Bool
is_owed neighbours p = (p.owes_join && are_few neighbours p.members) || p.owes_exchange

-- from when on the member is silent, if that is sooner and it isn't given up yet
abbrev pub sooner : (quiet first : ℕ) → Member → ℕ
sooner quiet first m = if m.is_down then first else min first (m.heard + quiet)

-- from when on one of the members is silent, if that is sooner
abbrev pub soonest : (quiet first : ℕ) → List Member → ℕ
soonest quiet first [] = first
soonest quiet first (m ∷ members) = soonest quiet (sooner quiet first m) members

-- ---- what follows

-- a place in the list; the first if it is empty
abbrev pub IsPlaceIn : List Member → ℕ → Type 0
IsPlaceIn members at = (at ≡ 0) ⊎ (at < length members)

-- the next one of so many places; after the last one the first
abbrev pub next_place : (count : ℕ) → ℕ → ℕ
next_place count at = if nat_lt (at + 1) count then at + 1 else 0

-- the greatest time
abbrev pub last_time : ℕ
last_time = 18446744073709551615

-- a tick owes a join and an exchange; each of these goes on to the next member. A member that was
-- given up is tried again by a join through it: it is a neighbour then, and may be given up anew
abbrev pub after : (now : ℕ) → Task → PlanParts → PlanParts
after now Tick p = record p {
  due = min (now + p.pace.tick) last_time;
  owes_join = true;
  owes_exchange = nat_lt 0 (length p.members);
}
after now (Hello n) p = record p { members = all_learn Greeted n p.members }
after now (Join n) p = record p {
  members = all_learn (Tried now) n p.members;
  owes_join = false;
  contact = next_place (length p.members) p.contact;
}
after now (BeginExchange n) p = record p {
  owes_exchange = false;
  partner = next_place (length p.members) p.partner;
}
after now (PeerDown n) p = record p { members = all_learn GivenUp n p.members }

abbrev pub heard_from : (now node : ℕ) → PlanParts → PlanParts
heard_from now node p = record p { members = all_learn (Heard now) node p.members }

abbrev pub with_member : (now node : ℕ) → PlanParts → PlanParts
with_member now node p = if has_member node p.members then p
    else record p { members = p.members ++ new_member now node ∷ [] }

-- nothing is owed to nobody
abbrev pub still_owed : Bool → List Member → Bool
still_owed owed members = owed && nat_lt 0 (length members)

-- if it is a member, nobody is of this node any more, and both turns begin anew with the first
-- member
abbrev pub taken_out : (node : ℕ) → PlanParts → PlanParts
taken_out node p = record p {
  members = others node p.members;
  contact = 0;
  partner = 0;
  owes_exchange = still_owed p.owes_exchange (others node p.members);
}

abbrev pub without_member : (node : ℕ) → PlanParts → PlanParts
without_member node p = if has_member node p.members then taken_out node p else p
