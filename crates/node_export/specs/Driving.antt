-- What the exports do with a node in one slot and its plan in another, and what they return. The
-- rule is our own.
use Rattle.std.specs.Prelude.{◌≡◌, ◌⊎◌, ◌<◌, ◌≤◌, ◌↔◌, ℕ, Option, Some, None, Result, Ok, Err, IsSome}
use Rattle.meta_types.specs.declared.fault.TypeFault.TheVariants.{BadNode}
use Rattle.node_hosted.specs.Fault.{code_of}
use Rattle.node_hosted.specs.Hosting.{HostedParts}
use Rattle.node_hosted.specs.declared.fault.HostFault.{HostFault}
use Rattle.node_hosted.specs.declared.fault.HostFault.TheVariants.{Argument, Memory}
use Rattle.driver.specs.declared.driven.Driven.{Driven}
use Rattle.driver.specs.Driving.{Drives, DrivesTime, Purpose, driver_of, next_task, with_other}
use Rattle.driver.specs.Plan.{PlanParts, without_member}
use Rattle.node_export.specs.Exports.{answer_of}

-- what an export does with the node and the plan, which are there before and after; 80 if one of
-- them isn't, and then all stays as it is
abbrev pub InBoth : (HostedParts → PlanParts → HostedParts → PlanParts → ℕ → Type 0)
    → Option HostedParts → Option PlanParts → Option HostedParts → Option PlanParts → ℕ → Type 0
InBoth does (Some n) (Some p) (Some m) (Some q) answer = does n p m q answer
InBoth does (Some n) (Some p) m q answer = ⊥
InBoth does n p m q answer = (answer ≡ 80) × (m ≡ n) × (q ≡ p)

-- the number of how it ended what a call was made for, or of why the call began nothing
abbrev pub answer_of_own : Result Driven HostFault → ℕ
answer_of_own (Ok driven) = answer_of driven.own
answer_of_own (Err fault) = code_of fault

-- the call was made, and the answer says how it ended what it was made for
abbrev pub DrivesAs : (now word : ℕ) → Purpose
    → HostedParts → PlanParts → HostedParts → PlanParts → ℕ → Type 0
DrivesAs now word purpose n p node plan answer =
    (outcome : Result Driven HostFault) × ((answer ≡ answer_of_own outcome)
    × Drives now word purpose (driver_of n p) outcome (driver_of node plan))

-- the call for the tasks alone was made, and the answer says how they ended
abbrev pub DrivesTimeAs : (now word : ℕ)
    → HostedParts → PlanParts → HostedParts → PlanParts → ℕ → Type 0
DrivesTimeAs now word n p node plan answer =
    (outcome : Result (Unit {0}) HostFault) × ((answer ≡ answer_of outcome)
    × DrivesTime now word (driver_of n p) outcome (driver_of node plan))

-- nothing was done, for this cause
abbrev pub LeavesBoth : ℕ → HostedParts → PlanParts → HostedParts → PlanParts → ℕ → Type 0
LeavesBoth cause n p node plan answer = (answer ≡ cause) × (node ≡ n) × (plan ≡ p)

-- a call whose bytes are copied first
abbrev pub DrivesCopied : (now word : ℕ) → Purpose
    → HostedParts → PlanParts → HostedParts → PlanParts → ℕ → Type 0
DrivesCopied now word purpose n p node plan answer =
    DrivesAs now word purpose n p node plan answer ⊎ LeavesBoth 99 n p node plan answer

-- a call that names another node; 3 if no node has the number
pub record DrivesPeer (peer now word : ℕ) (purpose : Purpose) (n : HostedParts) (p : PlanParts)
    (node : HostedParts) (plan : PlanParts) (answer : ℕ) : Type 0 where
  pub lawful : peer < 16 → DrivesAs now word purpose n p node plan answer
  pub unlawful : (peer < 16 → ⊥) → LeavesBoth 3 n p node plan answer

-- one of the two isn't there, and all stays as it is
abbrev pub LacksOne : Option HostedParts → Option PlanParts → Option HostedParts → Option PlanParts
    → Type 0
LacksOne n p node plan = ((n ≡ None) ⊎ (p ≡ None)) × (node ≡ n) × (plan ≡ p)

-- no node has the number that was named, and all stays
abbrev pub BadPeer : HostedParts → PlanParts → Result Driven HostFault
    → HostedParts → PlanParts → Type 0
BadPeer n p outcome node plan =
    (outcome ≡ Err (Argument BadNode)) × (node ≡ n) × (plan ≡ p)

-- ---- members, and when to wake

-- another node became a member; or no node has the number, or memory ran out, and all stays
abbrev pub AddsOrRefuses : (now member : ℕ) → HostedParts → PlanParts
    → Result (Unit {0}) HostFault → PlanParts → Type 0
AddsOrRefuses now member n p (Ok done) plan =
    (member < 16) × (plan ≡ with_other now member n p)
AddsOrRefuses now member n p (Err (Argument BadNode)) plan = (member < 16 → ⊥) × (plan ≡ p)
AddsOrRefuses now member n p (Err Memory) plan = (member < 16) × (plan ≡ p)
AddsOrRefuses now member n p (Err fault) plan = ⊥

abbrev pub AddsMember : (now member : ℕ)
    → HostedParts → PlanParts → HostedParts → PlanParts → ℕ → Type 0
AddsMember now member n p node plan answer =
    (outcome : Result (Unit {0}) HostFault) × ((answer ≡ answer_of outcome)
    × (node ≡ n) × AddsOrRefuses now member n p outcome plan)

-- a member was taken out; or no node has the number
abbrev pub RemovesOrRefuses : (member : ℕ) → PlanParts → Result (Unit {0}) HostFault → PlanParts
    → Type 0
RemovesOrRefuses member p (Ok done) plan = (member < 16) × (plan ≡ without_member member p)
RemovesOrRefuses member p (Err (Argument BadNode)) plan = (member < 16 → ⊥) × (plan ≡ p)
RemovesOrRefuses member p (Err fault) plan = ⊥

abbrev pub RemovesMember : (member : ℕ) → Option PlanParts → Option PlanParts → ℕ → Type 0
RemovesMember member (Some p) (Some plan) answer =
    (outcome : Result (Unit {0}) HostFault) × ((answer ≡ answer_of outcome)
    × RemovesOrRefuses member p outcome plan)
RemovesMember member (Some p) None answer = ⊥
RemovesMember member None plan answer = (answer ≡ 80) × (plan ≡ None)

-- something is next for the node from this time on, and not before; all stays
abbrev pub TellsWake : ℕ → HostedParts → PlanParts → HostedParts → PlanParts → ℕ → Type 0
TellsWake at n p node plan answer = (answer ≡ 0) × (node ≡ n) × (plan ≡ p)
    × ((now : ℕ) → IsSome (next_task now (driver_of n p)) ↔ (at ≤ now))
