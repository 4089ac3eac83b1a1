use Rattle.std.proofs.Common.{◌≡◌, List, length}
use Rattle.driver.specs.declared.task.Task.{Task}
use Rattle.driver.specs.Driving.{Works, driver_of}
use Rattle.driver.proofs.driving.work.Given as goal

abbrev pub invariant-loop-count : goal.invariant-loop-count
invariant-loop-count l =
    (tasks : List Task) × ((length tasks ≡ l.count) × Works l.now l.word (driver_of l.initial.node l.initial.plan) tasks (driver_of l.node l.plan))
