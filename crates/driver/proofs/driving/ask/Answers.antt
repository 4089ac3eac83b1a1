use Rattle.std.proofs.Common.{ap, subst}
use Rattle.node_hosted.specs.Hosting.{HostedParts}
use Rattle.driver.specs.Driving.{DoesWork, driver_of}
use Rattle.driver.proofs.Working.{IsOpen, Stays, acted, made_open, opened, worked_open}
use Rattle.driver.proofs.driving.ask.Goals as goal

pub close-requires-clause-going : goal.close-requires-clause-going
close-requires-clause-going c =
    let begun : IsOpen c.work-worked.new.node = worked_open c.args.now c.args.word (driver_of c.begin_batch.new.self c.args.plan.now) (driver_of c.work-worked.new.node c.work-worked.new.plan) c.work-worked.result c.work-worked.ensures
    (opened c.args.node.now c.begin_batch.new.self c.in_ok-begin_batch.ensures) in
    (made_open c.args.event Stays (driver_of c.work-worked.new.node c.work-worked.new.plan) (driver_of c.act-asked.new.self c.work-worked.new.plan) c.act-asked.result
    (acted c.args.event c.work-worked.new.plan c.work-worked.new.node c.act-asked.new.self c.act-asked.result c.act-asked.ensures.acts c.act-asked.ensures.refused) begun).going

pub close-requires-clause-open : goal.close-requires-clause-open
close-requires-clause-open c =
    let begun : IsOpen c.work-worked.new.node = worked_open c.args.now c.args.word (driver_of c.begin_batch.new.self c.args.plan.now) (driver_of c.work-worked.new.node c.work-worked.new.plan) c.work-worked.result c.work-worked.ensures
    (opened c.args.node.now c.begin_batch.new.self c.in_ok-begin_batch.ensures) in
    (made_open c.args.event Stays (driver_of c.work-worked.new.node c.work-worked.new.plan) (driver_of c.act-asked.new.self c.work-worked.new.plan) c.act-asked.result
    (acted c.args.event c.work-worked.new.plan c.work-worked.new.node c.act-asked.new.self c.act-asked.result c.act-asked.ensures.acts c.act-asked.ensures.refused) begun).open_

pub returns : goal.returns
returns c =
    let plan = c.work-worked.new.plan in
    let asked = acted c.args.event plan c.work-worked.new.node c.act-asked.new.self c.act-asked.result c.act-asked.ensures.acts c.act-asked.ensures.refused in
    let between = driver_of c.work-worked.new.node plan in
    let work = subst (λ (n : HostedParts). DoesWork c.args.now c.args.word (driver_of n c.args.plan.now) c.work-worked.result between) c.in_ok-begin_batch.ensures.2 c.work-worked.ensures in
    record {
      ready = c.in_ok-begin_batch.ensures.0;
      closed = c.in_ok-begin_batch.ensures.1;
      between = between;
      work = work;
      last = driver_of c.act-asked.new.self plan;
      fulfils = asked;
      ends = ap (λ (n : HostedParts). driver_of n plan) c.close.ensures;
    }
