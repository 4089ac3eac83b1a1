use Rattle.std.proofs.Common.{◌≡◌, ◌≤◌, ℕ, false, true, IsSome, sym, ap, subst, ◌∙◌}
use Rattle.std.specs.Prelude.{◌↔◌}
use Rattle.driver.specs.Plan.{PlanParts, is_owed, soonest, task_of}
use Rattle.driver.proofs.Waking.{wakes_owed, wakes_unowed}
use Rattle.driver.proofs.plan.Plan.wake.Goals as goal

pub returns-then-is_owed : goal.returns-then-is_owed
returns-then-is_owed c = λ now.
    let n = c.args.neighbours in
    let owed : is_owed n c.args.self.now ≡ true = sym c.is_owed.ensures ∙ c.if-is_owed.true in
    let Wakes : PlanParts → Type 0 = λ p. is_owed n p ≡ true → IsSome (task_of now n p) ↔ (0 ≤ now) in
    let i = c.self.inside in
    let p : PlanParts = record { pace = i.pace; members = i.members.items; contact = i.contact; partner = i.partner; due = i.due; owes_join = i.owes_join; owes_exchange = i.owes_exchange } in
    let rule = c.self.invariant in
    subst Wakes c.self.view_is (λ is. wakes_owed n p rule.0 rule.1 rule.2 is now) owed

pub returns : goal.returns
returns c = λ now.
    let n = c.args.neighbours in
    let p = c.args.self.now in
    let none : is_owed n p ≡ false = sym c.is_owed.ensures ∙ c.if-is_owed.false in
    let is : c.soonest.result ≡ soonest p.pace.quiet p.due p.members = c.soonest.ensures ∙ ap (λ xs. soonest c.self.inside.pace.quiet c.self.inside.due xs) c.as_slice.ensures.value ∙ ap (λ (q : PlanParts). soonest q.pace.quiet q.due q.members) c.self.view_is in
    subst (λ (k : ℕ). IsSome (task_of now n p) ↔ (k ≤ now)) (sym is) (wakes_unowed n p none now)
