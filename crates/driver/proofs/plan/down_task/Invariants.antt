use Rattle.std.proofs.Common.{◌≡◌, drop}
use Rattle.driver.specs.Plan.{down_task}
use Rattle.driver.proofs.plan.down_task.Given as goal

abbrev pub invariant-loop-member : goal.invariant-loop-member
invariant-loop-member l = down_task l.quiet l.now (drop l.member-index l.members) ≡ down_task l.quiet l.now l.members
