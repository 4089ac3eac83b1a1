use Rattle.std.proofs.Common.{◌+◌, ◌-◌, ◌≤◌, take}
use Rattle.world_core.specs.Outcome.{Outcomes}
use Rattle.world_core.proofs.world.World.run.Given as goal

abbrev pub invariant-loop-event : goal.invariant-loop-event
invariant-loop-event l = Outcomes l.fn.self (take l.event-index l.events) l.outcomes.items l.self × (l.outcomes.len + (l.event-index-end - l.event-index) ≤ l.outcomes.cap)
