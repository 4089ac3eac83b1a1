use Rattle.std.proofs.Common.{◌≡◌, ◌++◌, drop, take, map, length}
use Rattle.driver.specs.Plan.{learn}
use Rattle.driver.proofs.member.change_each.Given as goal

abbrev pub invariant-loop-place : goal.invariant-loop-place
invariant-loop-place l = (length l.members.items ≡ length l.initial.members.items) × (l.members.items ≡ map (learn l.change l.node) (take l.place l.initial.members.items) ++ drop l.place l.initial.members.items)
