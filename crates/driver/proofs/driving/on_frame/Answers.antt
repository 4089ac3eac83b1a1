use Rattle.node_events.specs.declared.event.NodeEvent.TheVariants as OfNode
use Rattle.driver.specs.Driving.{HearsSender, driver_of}
use Rattle.driver.proofs.Working.{IsOpen, made_open, opened, worked_open}
use Rattle.driver.proofs.driving.on_frame.Goals as goal

pub close-requires-clause-going : goal.close-requires-clause-going
close-requires-clause-going c =
    let begun : IsOpen c.work-worked.new.node = worked_open c.args.now c.args.word (driver_of c.begin_batch.new.self c.args.plan.now) (driver_of c.work-worked.new.node c.work-worked.new.plan) c.work-worked.result c.work-worked.ensures
    (opened c.args.node.now c.begin_batch.new.self c.in_ok-begin_batch.ensures) in
    (made_open (OfNode.Take c.args.frame c.args.word) (HearsSender c.args.now c.args.frame) (driver_of c.work-worked.new.node c.work-worked.new.plan) (driver_of c.take-taken.new.node c.take-taken.new.plan)
    c.take-taken.result c.take-taken.ensures begun).going

pub close-requires-clause-open : goal.close-requires-clause-open
close-requires-clause-open c =
    let begun : IsOpen c.work-worked.new.node = worked_open c.args.now c.args.word (driver_of c.begin_batch.new.self c.args.plan.now) (driver_of c.work-worked.new.node c.work-worked.new.plan) c.work-worked.result c.work-worked.ensures
    (opened c.args.node.now c.begin_batch.new.self c.in_ok-begin_batch.ensures) in
    (made_open (OfNode.Take c.args.frame c.args.word) (HearsSender c.args.now c.args.frame) (driver_of c.work-worked.new.node c.work-worked.new.plan) (driver_of c.take-taken.new.node c.take-taken.new.plan)
    c.take-taken.result c.take-taken.ensures begun).open_
