-- What a task that is next says of its plan.
use Rattle.std.proofs.Common.{◌≡◌, ◌+◌, ℕ, Bool, true, false, not, ◌&&◌, cond, nat_le, List, [], ◌∷◌, Option, Some, None, refl, ap, subst, ◌∙◌, eq-eqb}
use Rattle.std.specs.Prelude.{slice_get}
use Rattle.std.specs.Option.{option_map, unwrap_or}
use Rattle.std.proofs.lemmas.Option.{slice_get-map}
use Rattle.std.proofs.lemmas.Bool.{and_from, and_parts, or_left, or_right}
use Rattle.driver.specs.declared.member.Member.{Member}
use Rattle.driver.specs.declared.task.Task.{Task}
use Rattle.driver.specs.declared.task.Task.TheVariants.{Tick, Hello, Join, BeginExchange, PeerDown}
use Rattle.driver.specs.Plan.{PlanParts, are_few, down_task, exchange_task, has_member_that, is_silent, join_task, task_of}
use Rattle.driver.specs.Duty.{number_at, nodes_of}

-- how a task comes to be next
pub data IsNext (joining owed due : Bool) (join exchange down : Option Task) (task : Task) : Type 0 where
  ByJoin : joining ≡ true → join ≡ Some task → IsNext joining owed due join exchange down task
  ByExchange : joining ≡ false → owed ≡ true → exchange ≡ Some task → IsNext joining owed due join exchange down task
  ByTick : joining ≡ false → owed ≡ false → due ≡ true → task ≡ Tick → IsNext joining owed due join exchange down task
  ByDown : joining ≡ false → owed ≡ false → down ≡ Some task → IsNext joining owed due join exchange down task

told : (joining owed due : Bool) (join exchange down : Option Task) (task : Task)
    → cond joining join (cond owed exchange (cond due (Some Tick) down)) ≡ Some task → IsNext joining owed due join exchange down task
told true owed due join exchange down task is = ByJoin refl is
told false true due join exchange down task is = ByExchange refl refl is
told false false true join exchange down task is = let e : task ≡ Tick = cc in ByTick refl refl refl e
told false false false join exchange down task is = ByDown refl refl is

is_next : (now neighbours : ℕ) (p : PlanParts) (task : Task) → task_of now neighbours p ≡ Some task
    → IsNext (p.owes_join && are_few neighbours p.members) p.owes_exchange (nat_le p.due now) (join_task (slice_get p.members p.contact)) (exchange_task (slice_get p.members p.partner))
    (down_task p.pace.quiet now p.members) task
is_next now neighbours p task is =
    told (p.owes_join && are_few neighbours p.members) p.owes_exchange (nat_le p.due now) (join_task (slice_get p.members p.contact))
    (exchange_task (slice_get p.members p.partner)) (down_task p.pace.quiet now p.members) task is

-- ---- each part

-- the member through which the join is, and whether it was greeted
pub data IsJoinOf (m : Option Member) (task : Task) : Type 0 where
  Greets : (k : Member) → m ≡ Some k → k.is_greeted ≡ false → task ≡ Hello k.node → IsJoinOf m task
  Joins : (k : Member) → m ≡ Some k → k.is_greeted ≡ true → task ≡ Join k.node → IsJoinOf m task

greeting : (b : Bool) (k : Member) (task : Task) → k.is_greeted ≡ b → cond b (Some (Join k.node)) (Some (Hello k.node)) ≡ Some task → IsJoinOf (Some k) task
greeting true k task greeted is = let e : task ≡ Join k.node = cc in Joins k refl greeted e
greeting false k task greeted is = let e : task ≡ Hello k.node = cc in Greets k refl greeted e

join_of : (m : Option Member) (task : Task) → join_task m ≡ Some task → IsJoinOf m task
join_of None task is = absurd (cc)
join_of (Some k) task is = greeting k.is_greeted k task refl is

exchange_of : (m : Option Member) (task : Task) → exchange_task m ≡ Some task → (k : Member) × ((m ≡ Some k) × (task ≡ BeginExchange k.node))
exchange_of None task is = absurd (cc)
exchange_of (Some k) task is = let e : task ≡ BeginExchange k.node = cc in (k, (refl, e))

-- a node that is given up: it was silent, and wasn't given up
record IsDownOf (quiet now : ℕ) (members : List Member) (task : Task) : Type 0 where
  node : ℕ
  says : task ≡ PeerDown node
  up : has_member_that (λ m. not m.is_down) node members ≡ true
  silent : has_member_that (is_silent quiet now) node members ≡ true

silent_first : (quiet now : ℕ) (b : Bool) (m : Member) (members : List Member) (task : Task) (rest : Option Task) → is_silent quiet now m ≡ b
    → (rest ≡ Some task → IsDownOf quiet now members task) → cond b (Some (PeerDown m.node)) rest ≡ Some task → IsDownOf quiet now (m ∷ members) task
silent_first quiet now true m members task rest silent later is =
    let e : task ≡ PeerDown m.node = cc in
    let its = eq-eqb m.node m.node refl in
    let up = (and_parts (not m.is_down) (nat_le (m.heard + quiet) now) silent).0 in
    record { node = m.node; says = e; up = or_left _ _ (and_from _ _ its up); silent = or_left _ _ (and_from _ _ its silent) }
silent_first quiet now false m members task rest silent later is =
    let found = later is in
    record { node = found.node; says = found.says; up = or_right _ _ found.up; silent = or_right _ _ found.silent }

down_of : (quiet now : ℕ) (members : List Member) (task : Task) → down_task quiet now members ≡ Some task → IsDownOf quiet now members task
down_of quiet now [] task is = absurd (cc)
down_of quiet now (m ∷ members) task is =
    silent_first quiet now (is_silent quiet now m) m members task (down_task quiet now members) refl (down_of quiet now members task) is

pub node_there : (members : List Member) (at : ℕ) (k : Member) → slice_get members at ≡ Some k → number_at (nodes_of members) at ≡ k.node
node_there members at k is =
    ap (λ (o : Option ℕ). unwrap_or o 0) (slice_get-map (λ (m : Member). m.node) members at) ∙ ap (λ (o : Option Member). unwrap_or (option_map (λ (m : Member). m.node) o) 0) is

-- ---- each task

-- a tick comes only if nothing is owed, and it is due
pub tick_free : (now neighbours : ℕ) (p : PlanParts) → task_of now neighbours p ≡ Some Tick → ((p.owes_join && are_few neighbours p.members) ≡ false) × (p.owes_exchange ≡ false) × (nat_le p.due now ≡ true)
tick_free now neighbours p is =
    elim (is_next now neighbours p Tick is) [
      | ByJoin joining join ↦ elim (join_of (slice_get p.members p.contact) Tick join) [ Greets k there greeted says ↦ absurd (cc) | Joins k there greeted says ↦ absurd (cc) ]
      | ByExchange joining owed exchange ↦ let found = exchange_of (slice_get p.members p.partner) Tick exchange in let clash : Tick ≡ BeginExchange found.0.node = found.1.1 in absurd (cc)
      | ByTick joining owed due says ↦ (joining, owed, due)
      | ByDown joining owed down ↦ let found = down_of p.pace.quiet now p.members Tick down in let clash : Tick ≡ PeerDown found.node = found.says in absurd (cc)
    ]

-- an exchange comes only if it is owed, and is with the partner
pub exchange_owed : (now neighbours : ℕ) (p : PlanParts) (n : ℕ) → task_of now neighbours p ≡ Some (BeginExchange n)
    → (p.owes_exchange ≡ true) × (number_at (nodes_of p.members) p.partner ≡ n)
exchange_owed now neighbours p n is =
    elim (is_next now neighbours p (BeginExchange n) is) [
      | ByJoin joining join ↦ elim (join_of (slice_get p.members p.contact) (BeginExchange n) join) [ Greets k there greeted says ↦ absurd (cc) | Joins k there greeted says ↦ absurd (cc) ]
      | ByExchange joining owed exchange ↦
          let found = exchange_of (slice_get p.members p.partner) (BeginExchange n) exchange in
          let says : BeginExchange n ≡ BeginExchange found.0.node = found.1.1 in
          let same : found.0.node ≡ n = cc in
          (owed, node_there p.members p.partner found.0 found.1.0 ∙ same)
      | ByTick joining owed due says ↦ absurd (cc)
      | ByDown joining owed down ↦ let found = down_of p.pace.quiet now p.members (BeginExchange n) down in let clash : BeginExchange n ≡ PeerDown found.node = found.says in absurd (cc)
    ]

-- it is with the member at the partner's place
pub exchange_there : (now neighbours : ℕ) (p : PlanParts) (n : ℕ) → task_of now neighbours p ≡ Some (BeginExchange n)
    → (k : Member) × ((slice_get p.members p.partner ≡ Some k) × (k.node ≡ n))
exchange_there now neighbours p n is =
    elim (is_next now neighbours p (BeginExchange n) is) [
      | ByJoin joining join ↦ elim (join_of (slice_get p.members p.contact) (BeginExchange n) join) [ Greets k there greeted says ↦ absurd (cc) | Joins k there greeted says ↦ absurd (cc) ]
      | ByExchange joining owed exchange ↦
          let found = exchange_of (slice_get p.members p.partner) (BeginExchange n) exchange in
          let says : BeginExchange n ≡ BeginExchange found.0.node = found.1.1 in
          let same : found.0.node ≡ n = cc in
          (found.0, (found.1.0, same))
      | ByTick joining owed due says ↦ absurd (cc)
      | ByDown joining owed down ↦ let found = down_of p.pace.quiet now p.members (BeginExchange n) down in let clash : BeginExchange n ≡ PeerDown found.node = found.says in absurd (cc)
    ]

-- what is done for a join: it is owed, and neighbours are few
pub record IsDue (neighbours : ℕ) (p : PlanParts) (n : ℕ) (known : Bool) : Type 0 where
  pub joining : (p.owes_join && are_few neighbours p.members) ≡ true
  pub member : Member
  pub there : slice_get p.members p.contact ≡ Some member
  pub greeted : member.is_greeted ≡ known
  pub its_node : member.node ≡ n

pub join_due : (now neighbours : ℕ) (p : PlanParts) (n : ℕ) → task_of now neighbours p ≡ Some (Join n) → IsDue neighbours p n true
join_due now neighbours p n is =
    elim (is_next now neighbours p (Join n) is) [
      | ByJoin joining join ↦ elim (join_of (slice_get p.members p.contact) (Join n) join) [
        | Greets k there greeted says ↦ absurd (cc)
        | Joins k there greeted says ↦ let same : k.node ≡ n = cc in record { joining = joining; member = k; there = there; greeted = greeted; its_node = same }
      ]
      | ByExchange joining owed exchange ↦ let found = exchange_of (slice_get p.members p.partner) (Join n) exchange in let clash : Join n ≡ BeginExchange found.0.node = found.1.1 in absurd (cc)
      | ByTick joining owed due says ↦ absurd (cc)
      | ByDown joining owed down ↦ let found = down_of p.pace.quiet now p.members (Join n) down in let clash : Join n ≡ PeerDown found.node = found.says in absurd (cc)
    ]

pub hello_due : (now neighbours : ℕ) (p : PlanParts) (n : ℕ) → task_of now neighbours p ≡ Some (Hello n) → IsDue neighbours p n false
hello_due now neighbours p n is =
    elim (is_next now neighbours p (Hello n) is) [
      | ByJoin joining join ↦ elim (join_of (slice_get p.members p.contact) (Hello n) join) [
        | Greets k there greeted says ↦ let same : k.node ≡ n = cc in record { joining = joining; member = k; there = there; greeted = greeted; its_node = same }
        | Joins k there greeted says ↦ absurd (cc)
      ]
      | ByExchange joining owed exchange ↦ let found = exchange_of (slice_get p.members p.partner) (Hello n) exchange in let clash : Hello n ≡ BeginExchange found.0.node = found.1.1 in absurd (cc)
      | ByTick joining owed due says ↦ absurd (cc)
      | ByDown joining owed down ↦ let found = down_of p.pace.quiet now p.members (Hello n) down in let clash : Hello n ≡ PeerDown found.node = found.says in absurd (cc)
    ]

pub down_due : (now neighbours : ℕ) (p : PlanParts) (n : ℕ) → task_of now neighbours p ≡ Some (PeerDown n)
    → (has_member_that (λ m. not m.is_down) n p.members ≡ true) × (has_member_that (is_silent p.pace.quiet now) n p.members ≡ true)
down_due now neighbours p n is =
    elim (is_next now neighbours p (PeerDown n) is) [
      | ByJoin joining join ↦ elim (join_of (slice_get p.members p.contact) (PeerDown n) join) [ Greets k there greeted says ↦ absurd (cc) | Joins k there greeted says ↦ absurd (cc) ]
      | ByExchange joining owed exchange ↦
          let found = exchange_of (slice_get p.members p.partner) (PeerDown n) exchange in
          let clash : PeerDown n ≡ BeginExchange found.0.node = found.1.1 in
          absurd (cc)
      | ByTick joining owed due says ↦ absurd (cc)
      | ByDown joining owed down ↦
          let found = down_of p.pace.quiet now p.members (PeerDown n) down in
          let says : PeerDown n ≡ PeerDown found.node = found.says in
          let same : found.node ≡ n = cc in (
            subst (λ k. has_member_that (λ m. not m.is_down) k p.members ≡ true) same found.up,
            subst (λ k. has_member_that (is_silent p.pace.quiet now) k p.members ≡ true) same found.silent,
          )
    ]

-- while a join is owed and neighbours are few, nothing else is next but it or its hello
pub joining_first : (now neighbours : ℕ) (p : PlanParts) (task : Task) → task_of now neighbours p ≡ Some task → (p.owes_join && are_few neighbours p.members) ≡ true
    → IsJoinOf (slice_get p.members p.contact) task
joining_first now neighbours p task is must =
    elim (is_next now neighbours p task is) [
      | ByJoin joining join ↦ join_of _ task join
      | ByExchange joining owed exchange ↦ absurd (cc)
      | ByTick joining owed due says ↦ absurd (cc)
      | ByDown joining owed down ↦ absurd (cc)
    ]
