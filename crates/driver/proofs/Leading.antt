-- Changes that lead from one plan to the other, one after the other.
use Rattle.std.proofs.Common.{◌≡◌, ℕ, List, [], ◌∷◌, ◌++◌, length, refl, subst, arith}
use Rattle.driver.specs.Plan.{PlanParts}
use Rattle.driver.specs.Duty.{AreTasksAt, FrameCame, KeepMembers, Leads, LinkFailed, MemberAdded, MemberRemoved, PlanChange, TaskDone, plan_after, tasks_in}

pub lead_on : (old between new : PlanParts) (first then : List PlanChange) → Leads old first between → Leads between then new → Leads old (first ++ then) new
lead_on old between new [] then same later = subst (λ (p : PlanParts). Leads p then new) same later
lead_on old between new (change ∷ first) then (can, leads) later = (can, lead_on (plan_after change old) between new first then leads later)

pub keep_on : (first then : List PlanChange) → KeepMembers first → KeepMembers then → KeepMembers (first ++ then)
keep_on [] then keep later = later
keep_on (TaskDone t near task ∷ rest) then keep later = keep_on rest then keep later
keep_on (FrameCame t n ∷ rest) then keep later = keep_on rest then keep later
keep_on (LinkFailed n ∷ rest) then keep later = keep_on rest then keep later
keep_on (MemberAdded t n ∷ rest) then keep later = absurd keep
keep_on (MemberRemoved n ∷ rest) then keep later = absurd keep

-- tasks at one time are as many, and keep the members
pub as_many : (now : ℕ) (changes : List PlanChange) → AreTasksAt now changes → length changes ≡ length (tasks_in changes)
as_many now [] at = refl
as_many now (TaskDone t near task ∷ rest) (same, at) = let more = as_many now rest at in omega (arith, more)
as_many now (FrameCame t n ∷ rest) at = absurd at
as_many now (LinkFailed n ∷ rest) at = absurd at
as_many now (MemberAdded t n ∷ rest) at = absurd at
as_many now (MemberRemoved n ∷ rest) at = absurd at

pub tasks_keep : (now : ℕ) (changes : List PlanChange) → AreTasksAt now changes → KeepMembers changes
tasks_keep now [] at = tt
tasks_keep now (TaskDone t near task ∷ rest) (same, at) = tasks_keep now rest at
tasks_keep now (FrameCame t n ∷ rest) at = absurd at
tasks_keep now (LinkFailed n ∷ rest) at = absurd at
tasks_keep now (MemberAdded t n ∷ rest) at = absurd at
tasks_keep now (MemberRemoved n ∷ rest) at = absurd at
