use Rattle.std.proofs.Common.{◌≡◌, drop}
use Rattle.driver.specs.Plan.{soonest}
use Rattle.driver.proofs.plan.soonest.Given as goal

abbrev pub invariant-loop-member : goal.invariant-loop-member
invariant-loop-member l = soonest l.quiet l.soonest (drop l.member-index l.members) ≡ soonest l.quiet l.first l.members
