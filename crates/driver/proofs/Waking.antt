-- From when on something is next.
use Rattle.std.proofs.Common.{◌≡◌, ◌≤◌, ◌<◌, ◌+◌, ◌⊎◌, inl, inr, ℕ, zero, suc, Bool, true, false, not, ◌&&◌, ◌||◌, cond, min, nat_le, List, [], ◌∷◌, length, Option, Some, IsSome, refl, sym, subst, ◌∙◌, arith}
use Rattle.std.specs.Prelude.{◌↔◌, slice_get}
use Rattle.std.proofs.lemmas.Bool.{and_from, and_parts, le-leb, leb-true, ltb-true}
use Rattle.driver.specs.declared.member.Member.{Member}
use Rattle.driver.specs.declared.task.Task.{Task}
use Rattle.driver.specs.declared.task.Task.TheVariants.{Tick, Hello, Join, PeerDown}
use Rattle.driver.specs.Plan.{IsPlaceIn, PlanParts, are_few, down_task, exchange_task, is_owed, is_silent, join_task, sooner, soonest, task_of}

-- ---- who is silent, and when

sooner_below : (first at : ℕ) (b : Bool) → cond b first (min first at) ≤ first
sooner_below first at true = omega arith
sooner_below first at false = omega arith

soonest_below : (quiet first : ℕ) (members : List Member) → soonest quiet first members ≤ first
soonest_below quiet first [] = omega arith
soonest_below quiet first (m ∷ members) =
    omega (arith, soonest_below quiet (sooner quiet first m) members, sooner_below first (m.heard + quiet) m.is_down)

sooner_silent : (first at now : ℕ) (b : Bool) → not b ≡ true → at ≤ now → cond b first (min first at) ≤ now
sooner_silent first at now true up due = absurd (cc)
sooner_silent first at now false up due = omega arith

of_silent : (quiet first now : ℕ) (m : Member) (members : List Member) (rest : Option Task) (b : Bool) → is_silent quiet now m ≡ b
    → (IsSome rest → soonest quiet (sooner quiet first m) members ≤ now) → IsSome (cond b (Some (PeerDown m.node)) rest) → soonest quiet (sooner quiet first m) members ≤ now
of_silent quiet first now m members rest true is later some =
    let parts = and_parts (not m.is_down) (nat_le (m.heard + quiet) now) is in
    let soon = sooner_silent first (m.heard + quiet) now m.is_down parts.0 (leb-true (m.heard + quiet) now parts.1) in
    omega (arith, soonest_below quiet (sooner quiet first m) members, soon)
of_silent quiet first now m members rest false is later some = later some

silent_soon : (quiet first now : ℕ) (members : List Member) → IsSome (down_task quiet now members) → soonest quiet first members ≤ now
silent_soon quiet first now [] some = absurd (cc)
silent_soon quiet first now (m ∷ members) some =
    of_silent quiet first now m members (down_task quiet now members) (is_silent quiet now m) refl (silent_soon quiet (sooner quiet first m) now members) some

first_or_silent : (first at now : ℕ) (b : Bool) → cond b first (min first at) ≤ now → (first ≤ now) ⊎ ((not b && nat_le at now) ≡ true)
first_or_silent first at now true soon = inl soon
first_or_silent first at now false soon =
    elim (below_min first at now soon) [ inl here ↦ inl here | inr there ↦ inr (and_from _ _ refl (le-leb at now there)) ]
  where
    below_min : (a b n : ℕ) → min a b ≤ n → (a ≤ n) ⊎ (b ≤ n)
    below_min a b n below = grind arith

found : (b : Bool) (n : ℕ) (rest : Option Task) → (b ≡ true) ⊎ IsSome rest → IsSome (cond b (Some (PeerDown n)) rest)
found true n rest some = refl
found false n rest some = elim some [ inl never ↦ absurd (cc) | inr more ↦ more ]

soon_silent : (quiet first now : ℕ) (members : List Member) → soonest quiet first members ≤ now → (first ≤ now) ⊎ IsSome (down_task quiet now members)
soon_silent quiet first now [] soon = inl soon
soon_silent quiet first now (m ∷ members) soon =
    elim (soon_silent quiet (sooner quiet first m) now members soon) [
      | inl sooner_ ↦ elim (first_or_silent first (m.heard + quiet) now m.is_down sooner_) [
        | inl here ↦ inl here
        | inr silent ↦ inr (found (is_silent quiet now m) m.node (down_task quiet now members) (inl silent))
      ]
      | inr some ↦ inr (found (is_silent quiet now m) m.node (down_task quiet now members) (inr some))
    ]

-- ---- nothing is owed

tick_or_silent : (b : Bool) (due now : ℕ) (down : Option Task) (first : ℕ) → nat_le due now ≡ b → (first ≤ now → (due ≤ now) ⊎ IsSome down) → (first ≤ due) → (IsSome down → first ≤ now)
    → IsSome (cond b (Some Tick) down) ↔ (first ≤ now)
tick_or_silent true due now down first is soon below silent = let ticks : due ≤ now = leb-true due now is in (λ some. omega arith, λ sooner_. refl)
tick_or_silent false due now down first is soon below silent =
    (silent, λ sooner_. elim (soon sooner_) [ inl here ↦ let clash = sym is ∙ le-leb due now here in absurd (cc) | inr some ↦ some ])

unowed : (joining owed : Bool) (join exchange rest : Option Task) → (joining || owed) ≡ false → cond joining join (cond owed exchange rest) ≡ rest
unowed true owed join exchange rest none = absurd (cc)
unowed false true join exchange rest none = absurd (cc)
unowed false false join exchange rest none = refl

pub wakes_unowed : (neighbours : ℕ) (p : PlanParts) → is_owed neighbours p ≡ false → (now : ℕ) → IsSome (task_of now neighbours p) ↔ (soonest p.pace.quiet p.due p.members ≤ now)
wakes_unowed neighbours p none now =
    let down = down_task p.pace.quiet now p.members in
    let rest = cond (nat_le p.due now) (Some Tick) down in
    subst (λ (o : Option Task). IsSome o ↔ (soonest p.pace.quiet p.due p.members ≤ now))
    (sym (unowed (p.owes_join && are_few neighbours p.members) p.owes_exchange (join_task (slice_get p.members p.contact)) (exchange_task (slice_get p.members p.partner)) rest none))
    (tick_or_silent (nat_le p.due now) p.due now down (soonest p.pace.quiet p.due p.members) refl (soon_silent p.pace.quiet p.due now p.members) (soonest_below p.pace.quiet p.due p.members)
    (silent_soon p.pace.quiet p.due now p.members))

-- ---- something is owed

member_at : (members : List Member) (at : ℕ) → at < length members → (m : Member) × (slice_get members at ≡ Some m)
member_at [] at low = absurd (omega arith)
member_at (m ∷ members) zero low = (m, refl)
member_at (m ∷ members) (suc at) low = member_at members at (omega arith)

in_place : (members : List Member) (at : ℕ) → IsPlaceIn members at → 0 < length members → at < length members
in_place members at place some = elim place [ inl first ↦ omega arith | inr low ↦ low ]

greets : (b : Bool) (n : ℕ) → IsSome (cond b (Some (Join n)) (Some (Hello n)))
greets true n = refl
greets false n = refl

some_join : (o : Option Member) (m : Member) → o ≡ Some m → IsSome (join_task o)
some_join o m is = subst (λ (o : Option Member). IsSome (join_task o)) (sym is) (greets m.is_greeted m.node)

some_exchange : (o : Option Member) (m : Member) → o ≡ Some m → IsSome (exchange_task o)
some_exchange o m is = subst (λ (o : Option Member). IsSome (exchange_task o)) (sym is) refl

owed_is_next : (joining owed : Bool) (join exchange rest : Option Task) → (joining ≡ true → IsSome join) → (owed ≡ true → IsSome exchange) → (joining || owed) ≡ true
    → IsSome (cond joining join (cond owed exchange rest))
owed_is_next true owed join exchange rest joins exchanges some = joins refl
owed_is_next false true join exchange rest joins exchanges some = exchanges refl
owed_is_next false false join exchange rest joins exchanges some = absurd (cc)

pub wakes_owed : (neighbours : ℕ) (p : PlanParts) → IsPlaceIn p.members p.contact → IsPlaceIn p.members p.partner → (p.owes_exchange ≡ true → 0 < length p.members)
    → is_owed neighbours p ≡ true → (now : ℕ) → IsSome (task_of now neighbours p) ↔ (0 ≤ now)
wakes_owed neighbours p contact partner members owed now =
    let some : IsSome (task_of now neighbours p) =
    owed_is_next (p.owes_join && are_few neighbours p.members) p.owes_exchange (join_task (slice_get p.members p.contact)) (exchange_task (slice_get p.members p.partner))
    (cond (nat_le p.due now) (Some Tick) (down_task p.pace.quiet now p.members))
    (λ joining.
    let few : neighbours < min 3 (length p.members) = ltb-true neighbours (min 3 (length p.members)) (and_parts p.owes_join (are_few neighbours p.members) joining).1 in
    let there = member_at p.members p.contact (in_place p.members p.contact contact (omega (arith, few))) in
    some_join (slice_get p.members p.contact) there.0 there.1)
    (λ owes.
    let there = member_at p.members p.partner (in_place p.members p.partner partner (members owes)) in
    some_exchange (slice_get p.members p.partner) there.0 there.1)
    owed in
    (λ is. omega arith, λ any. some)
