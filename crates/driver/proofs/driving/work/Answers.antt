use Rattle.std.proofs.Common.{◌≡◌, ◌+◌, ◌∷◌, [], ◌++◌, length, length-append, arith}
use Rattle.driver.specs.Driving.{driver_of}
use Rattle.driver.proofs.Working.{works_more}
use Rattle.driver.proofs.driving.work.Goals as goal

pub loop-count-preserved : goal.loop-count-preserved
loop-count-preserved c =
    let l = c.loop-count in
    let tasks = l.invariant.0 in
    let task = c.in-Some.task in
    let before : length tasks ≡ l.count = l.invariant.1.0 in
    let after : length (tasks ++ task ∷ []) ≡ l.count + 1 = omega (arith, length-append tasks (task ∷ []), before) in (
      tasks ++ task ∷ [],
      (after, works_more c.args.now c.args.word (driver_of c.args.node.now c.args.plan.now) (driver_of l.node l.plan) (driver_of c.do_task.new.node c.do_task.new.plan) tasks task l.invariant.1.1 c.in_ok-do_task.ensures.done),
    )
