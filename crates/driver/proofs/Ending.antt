-- At one time the tasks come to an end: each of them leaves less to do.
use Rattle.std.proofs.Common.{◌≡◌, ◌≤◌, ◌<◌, ◌+◌, inl, inr, ℕ, Bool, true, false, ◌&&◌, cond, min, nat_le, nat_lt, nat_eq, List, [], ◌∷◌, length, Option, Some, None, refl, ap, subst, ◌∙◌, arith, eq-eqb}
use Rattle.std.specs.Prelude.{slice_get}
use Rattle.std.specs.Option.{option_map}
use Rattle.std.proofs.lemmas.Option.{slice_get-map}
use Rattle.std.proofs.lemmas.Bool.{and_parts, leb-true, or_cases}
use Rattle.driver.specs.declared.member.Member.{Member}
use Rattle.driver.specs.declared.member.MemberChange.TheVariants.{Greeted, GivenUp, Heard, Tried}
use Rattle.driver.specs.declared.task.Task.{Task}
use Rattle.driver.specs.declared.task.Task.TheVariants.{Tick, Hello, Join, BeginExchange, PeerDown}
use Rattle.driver.specs.Plan.{PlanParts, after, are_few, all_learn, has_member_that, is_silent, last_time, learn, made, task_of}
use Rattle.driver.specs.Duty.{MemberAdded, AreTasksAt, TaskDone, LinkFailed, PlanChange, FrameCame, Leads, MemberRemoved, TasksEnd, one_if, ticks_in}
use Rattle.driver.proofs.Tasks.{down_due, exchange_owed, hello_due, join_due, tick_free}

-- ---- how many members are silent

silent_in : (quiet now : ℕ) → List Member → ℕ
silent_in quiet now [] = 0
silent_in quiet now (m ∷ members) = one_if (is_silent quiet now m) + silent_in quiet now members

one_most : (b : Bool) → one_if b ≤ 1
one_most true = omega arith
one_most false = omega arith

silent_most : (quiet now : ℕ) (members : List Member) → silent_in quiet now members ≤ length members
unfolding silent_in
silent_most quiet now [] = omega arith
silent_most quiet now (m ∷ members) = omega (arith, one_most (is_silent quiet now m), silent_most quiet now members)

greeted_same : (quiet now : ℕ) (m : Member) (b : Bool) → is_silent quiet now (cond b (made Greeted m) m) ≡ is_silent quiet now m
greeted_same quiet now m true = refl
greeted_same quiet now m false = refl

silent_greeted : (quiet now n : ℕ) (members : List Member) → silent_in quiet now (all_learn Greeted n members) ≡ silent_in quiet now members
unfolding silent_in
silent_greeted quiet now n [] = refl
silent_greeted quiet now n (m ∷ members) =
    ap (λ (b : Bool). one_if b + silent_in quiet now (all_learn Greeted n members)) (greeted_same quiet now m (nat_eq m.node n))
    ∙ ap (λ (k : ℕ). one_if (is_silent quiet now m) + k) (silent_greeted quiet now n members)

given_less : (quiet now : ℕ) (m : Member) (b : Bool) → one_if (is_silent quiet now (cond b (made GivenUp m) m)) ≤ one_if (is_silent quiet now m)
given_less quiet now m true = omega arith
given_less quiet now m false = omega arith

silent_given : (quiet now n : ℕ) (members : List Member) → silent_in quiet now (all_learn GivenUp n members) ≤ silent_in quiet now members
unfolding silent_in
silent_given quiet now n [] = omega arith
silent_given quiet now n (m ∷ members) = omega (arith, given_less quiet now m (nat_eq m.node n), silent_given quiet now n members)

given_none : (quiet now n : ℕ) (m : Member) (b : Bool) → b ≡ true → one_if (is_silent quiet now (cond b (made GivenUp m) m)) ≡ 0
given_none quiet now n m true is = refl
given_none quiet now n m false is = absurd (cc)

-- who is tried again isn't silent yet, unless that is at once
not_yet : (quiet now : ℕ) (b : Bool) → nat_le (now + quiet) now ≡ b → 1 ≤ quiet → b ≡ false
not_yet quiet now true is some = absurd (omega (arith, leb-true (now + quiet) now is))
not_yet quiet now false is some = refl

tried_less : (quiet now : ℕ) (m : Member) (down : Bool) → 1 ≤ quiet → one_if (is_silent quiet now (cond down (made (Heard now) m) m)) ≤ one_if (is_silent quiet now m)
tried_less quiet now m true some = omega (arith, ap one_if (not_yet quiet now (nat_le (now + quiet) now) refl some))
tried_less quiet now m false some = omega arith

joined_less : (quiet now : ℕ) (m : Member) (b : Bool) → 1 ≤ quiet → one_if (is_silent quiet now (cond b (made (Tried now) m) m)) ≤ one_if (is_silent quiet now m)
joined_less quiet now m true some = tried_less quiet now m m.is_down some
joined_less quiet now m false some = omega arith

silent_tried : (quiet now n : ℕ) (members : List Member) → 1 ≤ quiet → silent_in quiet now (all_learn (Tried now) n members) ≤ silent_in quiet now members
unfolding silent_in
silent_tried quiet now n [] some = omega arith
silent_tried quiet now n (m ∷ members) some = omega (arith, joined_less quiet now m (nat_eq m.node n) some, silent_tried quiet now n members some)

silent_fewer : (quiet now n : ℕ) (members : List Member) → has_member_that (is_silent quiet now) n members ≡ true
    → silent_in quiet now (all_learn GivenUp n members) < silent_in quiet now members
unfolding silent_in
silent_fewer quiet now n [] some = absurd (cc)
silent_fewer quiet now n (m ∷ members) some =
    elim (or_cases (nat_eq m.node n && is_silent quiet now m) (has_member_that (is_silent quiet now) n members) some) [
      | inl here ↦
          let parts = and_parts (nat_eq m.node n) (is_silent quiet now m) here in
          let was = ap one_if parts.1 in
          omega (arith, was, given_none quiet now n m (nat_eq m.node n) parts.0, silent_given quiet now n members)
      | inr later ↦ omega (arith, given_less quiet now m (nat_eq m.node n), silent_fewer quiet now n members later)
    ]

-- ---- what is left for a join: it, and its hello

abbrev with_hello : Bool → ℕ
with_hello greeted = cond greeted 1 2

for_join : Option Member → ℕ
for_join None = 1
for_join (Some m) = with_hello m.is_greeted

both : (b : Bool) → (1 ≤ with_hello b) × (with_hello b ≤ 2)
both true = (omega arith, omega arith)
both false = (omega arith, omega arith)

for_join_bounds : (o : Option Member) → (1 ≤ for_join o) × (for_join o ≤ 2)
unfolding for_join
for_join_bounds None = (omega arith, omega arith)
for_join_bounds (Some m) = both m.is_greeted

given_join : (n : ℕ) (m : Member) (b : Bool) → with_hello (cond b (made GivenUp m) m).is_greeted ≡ with_hello m.is_greeted
given_join n m true = refl
given_join n m false = refl

option_given : (n : ℕ) (o : Option Member) → for_join (option_map (learn GivenUp n) o) ≡ for_join o
unfolding for_join
option_given n None = refl
option_given n (Some m) = given_join n m (nat_eq m.node n)

join_given : (n at : ℕ) (members : List Member) → for_join (slice_get (all_learn GivenUp n members) at) ≡ for_join (slice_get members at)
join_given n at members = ap for_join (slice_get-map (learn GivenUp n) members at) ∙ option_given n (slice_get members at)

now_greeted : (m : Member) (b : Bool) → b ≡ true → with_hello (cond b (made Greeted m) m).is_greeted ≡ 1
now_greeted m true is = refl
now_greeted m false is = absurd (cc)

join_greeted : (n at : ℕ) (members : List Member) (m : Member) → slice_get members at ≡ Some m → m.node ≡ n → for_join (slice_get (all_learn Greeted n members) at) ≡ 1
unfolding for_join
join_greeted n at members m there its =
    ap for_join (slice_get-map (learn Greeted n) members at ∙ ap (option_map (learn Greeted n)) there) ∙ now_greeted m (nat_eq m.node n) (eq-eqb m.node n its)

join_ungreeted : (o : Option Member) (m : Member) → o ≡ Some m → m.is_greeted ≡ false → for_join o ≡ 2
unfolding for_join
join_ungreeted o m there not_yet = ap for_join there ∙ ap with_hello not_yet

-- ---- what is left in all

join_left : PlanParts → ℕ
join_left p = cond p.owes_join (for_join (slice_get p.members p.contact)) 0

abbrev if_due : Bool → ℕ
if_due due = cond due 4 0

due_left : ℕ → PlanParts → ℕ
due_left now p = if_due (nat_le p.due now)

left : ℕ → PlanParts → ℕ
left now p = join_left p + one_if p.owes_exchange + due_left now p + silent_in p.pace.quiet now p.members

join_most : (b : Bool) (k : ℕ) → k ≤ 2 → cond b k 0 ≤ 2
join_most true k most = most
join_most false k most = omega arith

four_most : (b : Bool) → cond b 4 0 ≤ 4
four_most true = omega arith
four_most false = omega arith

left_most : (now : ℕ) (p : PlanParts) → left now p ≤ 7 + length p.members
unfolding left join_left due_left
left_most now p =
    omega (arith, join_most p.owes_join (for_join (slice_get p.members p.contact)) (for_join_bounds (slice_get p.members p.contact)).1, one_most p.owes_exchange, four_most (nat_le p.due now), silent_most p.pace.quiet now p.members)

if_true : (b : Bool) (k : ℕ) → b ≡ true → cond b k 0 ≡ k
if_true true k is = refl
if_true false k is = absurd (cc)

not_due : (now due : ℕ) (b : Bool) → nat_le due now ≡ b → now < due → b ≡ false
not_due now due true is later = absurd (omega (arith, leb-true due now is))
not_due now due false is later = refl

next_due : (now : ℕ) (p : PlanParts) → 1 ≤ p.pace.tick → now < last_time → nat_le (after now Tick p).due now ≡ false
next_due now p tick early = not_due now (min (now + p.pace.tick) last_time) (nat_le (min (now + p.pace.tick) last_time) now) refl (omega arith)

-- each task leaves less
less : (now neighbours : ℕ) (p : PlanParts) (task : Task) → task_of now neighbours p ≡ Some task → 1 ≤ p.pace.tick → 1 ≤ p.pace.quiet → now < last_time
    → left now (after now task p) < left now p
unfolding left join_left due_left
less now neighbours p Tick is tick some early =
    let free = tick_free now neighbours p is in
    let was = if_true (nat_le p.due now) 4 free.2 in
    let later = ap if_due (next_due now p tick early) in
    omega (arith, was, later, (for_join_bounds (slice_get p.members p.contact)).1, (for_join_bounds (slice_get p.members p.contact)).0, one_most (nat_lt 0 (length p.members)))
less now neighbours p (Hello n) is tick some early =
    let due = hello_due now neighbours p n is in
    let owes = (and_parts p.owes_join (are_few neighbours p.members) due.joining).0 in
    let was = if_true p.owes_join (for_join (slice_get p.members p.contact)) owes in
    let then = if_true p.owes_join (for_join (slice_get (all_learn Greeted n p.members) p.contact)) owes in
    omega (arith, was, then, join_ungreeted (slice_get p.members p.contact) due.member due.there due.greeted, join_greeted n p.contact p.members due.member due.there due.its_node, silent_greeted p.pace.quiet now n p.members)
less now neighbours p (Join n) is tick some early =
    let due = join_due now neighbours p n is in
    let owes = (and_parts p.owes_join (are_few neighbours p.members) due.joining).0 in
    let was = if_true p.owes_join (for_join (slice_get p.members p.contact)) owes in
    omega (arith, was, (for_join_bounds (slice_get p.members p.contact)).0, silent_tried p.pace.quiet now n p.members some)
less now neighbours p (BeginExchange n) is tick some early =
    let owed = ap one_if (exchange_owed now neighbours p n is).0 in
    omega (arith, owed)
less now neighbours p (PeerDown n) is tick some early =
    let same = ap (λ (k : ℕ). cond p.owes_join k 0) (join_given n p.contact p.members) in
    omega (arith, same, silent_fewer p.pace.quiet now n p.members (down_due now neighbours p n is).1)

-- ---- one after the other

same_pace : (now : ℕ) (p : PlanParts) (task : Task) → (after now task p).pace ≡ p.pace
same_pace now p Tick = refl
same_pace now p (Hello n) = refl
same_pace now p (Join n) = refl
same_pace now p (BeginExchange n) = refl
same_pace now p (PeerDown n) = refl

few : (old new : PlanParts) (changes : List PlanChange) (now : ℕ) → Leads old changes new → AreTasksAt now changes → 1 ≤ old.pace.tick → 1 ≤ old.pace.quiet → now < last_time
    → length changes ≤ left now old
few old new [] now same at tick some early = omega arith
few old new (FrameCame t n ∷ rest) now leads at tick some early = absurd at
few old new (LinkFailed n ∷ rest) now leads at tick some early = absurd at
few old new (MemberAdded t n ∷ rest) now leads at tick some early = absurd at
few old new (MemberRemoved n ∷ rest) now leads at tick some early = absurd at
few old new (TaskDone t near task ∷ rest) now (is, leads) (same, at) tick some early =
    let pace = same_pace t old task in
    let later = few (after t task old) new rest now leads at (omega (arith, ap (λ q. q.tick) pace)) (omega (arith, ap (λ q. q.quiet) pace)) early in
    let fewer = subst (λ (k : ℕ). left k (after t task old) < left k old) same (less t near old task is tick some (omega arith)) in
    omega (arith, later, fewer)

ticks : (old new : PlanParts) (changes : List PlanChange) (now : ℕ) → Leads old changes new → AreTasksAt now changes → 1 ≤ old.pace.tick → now < last_time
    → ticks_in changes ≤ one_if (nat_le old.due now)
ticks old new [] now same at tick early = omega arith
ticks old new (FrameCame t n ∷ rest) now leads at tick early = absurd at
ticks old new (LinkFailed n ∷ rest) now leads at tick early = absurd at
ticks old new (MemberAdded t n ∷ rest) now leads at tick early = absurd at
ticks old new (MemberRemoved n ∷ rest) now leads at tick early = absurd at
ticks old new (TaskDone t near (Hello n) ∷ rest) now (is, leads) (same, at) tick early = ticks (after t (Hello n) old) new rest now leads at tick early
ticks old new (TaskDone t near (Join n) ∷ rest) now (is, leads) (same, at) tick early = ticks (after t (Join n) old) new rest now leads at tick early
ticks old new (TaskDone t near (BeginExchange n) ∷ rest) now (is, leads) (same, at) tick early = ticks (after t (BeginExchange n) old) new rest now leads at tick early
ticks old new (TaskDone t near (PeerDown n) ∷ rest) now (is, leads) (same, at) tick early = ticks (after t (PeerDown n) old) new rest now leads at tick early
ticks old new (TaskDone t near Tick ∷ rest) now (is, leads) (same, at) tick early =
    let later = ticks (after t Tick old) new rest now leads at tick early in
    let due = subst (λ (k : ℕ). nat_le old.due k ≡ true) same (tick_free t near old is).2 in
    let none = subst (λ (k : ℕ). nat_le (after t Tick old).due k ≡ false) same (next_due t old tick (omega arith)) in
    omega (arith, later, ap one_if due, ap one_if none)

pub tasks_end : TasksEnd
tasks_end old new changes now leads at tick early = (
  omega (arith, ticks old new changes now leads at tick early, one_most (nat_le old.due now)),
  (λ some. omega (arith, few old new changes now leads at tick some early, left_most now old)),
)
