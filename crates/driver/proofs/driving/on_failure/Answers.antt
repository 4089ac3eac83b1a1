use Rattle.driver.specs.Plan.{is_given_up}
use Rattle.driver.specs.Driving.{driver_of}
use Rattle.driver.proofs.Working.{IsOpen, opened, told_open, worked_open}
use Rattle.driver.proofs.driving.on_failure.Goals as goal

pub close-requires-clause-going : goal.close-requires-clause-going
close-requires-clause-going c =
    let begun : IsOpen c.work-worked.new.node = worked_open c.args.now c.args.word (driver_of c.begin_batch.new.self c.args.plan.now) (driver_of c.work-worked.new.node c.work-worked.new.plan) c.work-worked.result c.work-worked.ensures
    (opened c.args.node.now c.begin_batch.new.self c.in_ok-begin_batch.ensures) in
    (told_open c.args.now c.args.word c.args.peer (is_given_up c.args.peer c.work-worked.new.plan.members) (driver_of c.work-worked.new.node c.work-worked.new.plan)
    (driver_of c.tell_down-told.new.node c.tell_down-told.new.plan) c.tell_down-told.result c.tell_down-told.ensures begun).going

pub close-requires-clause-open : goal.close-requires-clause-open
close-requires-clause-open c =
    let begun : IsOpen c.work-worked.new.node = worked_open c.args.now c.args.word (driver_of c.begin_batch.new.self c.args.plan.now) (driver_of c.work-worked.new.node c.work-worked.new.plan) c.work-worked.result c.work-worked.ensures
    (opened c.args.node.now c.begin_batch.new.self c.in_ok-begin_batch.ensures) in
    (told_open c.args.now c.args.word c.args.peer (is_given_up c.args.peer c.work-worked.new.plan.members) (driver_of c.work-worked.new.node c.work-worked.new.plan)
    (driver_of c.tell_down-told.new.node c.tell_down-told.new.plan) c.tell_down-told.result c.tell_down-told.ensures begun).open_
