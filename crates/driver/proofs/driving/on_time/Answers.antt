use Rattle.std.proofs.Common.{ap, subst, refl}
use Rattle.node_hosted.specs.Hosting.{HostedParts}
use Rattle.driver.specs.Driving.{DoesWork, driver_of}
use Rattle.driver.proofs.Working.{IsOpen, opened, time_driven, worked_open}
use Rattle.driver.proofs.driving.on_time.Goals as goal

pub close-requires-clause-going : goal.close-requires-clause-going
close-requires-clause-going c =
    let begun : IsOpen c.work-outcome.new.node = worked_open c.args.now c.args.word (driver_of c.begin_batch.new.self c.args.plan.now) (driver_of c.work-outcome.new.node c.work-outcome.new.plan) c.work-outcome.result c.work-outcome.ensures
    (opened c.args.node.now c.begin_batch.new.self c.in_ok-begin_batch.ensures) in
    begun.going

pub close-requires-clause-open : goal.close-requires-clause-open
close-requires-clause-open c =
    let begun : IsOpen c.work-outcome.new.node = worked_open c.args.now c.args.word (driver_of c.begin_batch.new.self c.args.plan.now) (driver_of c.work-outcome.new.node c.work-outcome.new.plan) c.work-outcome.result c.work-outcome.ensures
    (opened c.args.node.now c.begin_batch.new.self c.in_ok-begin_batch.ensures) in
    begun.open_

pub returns : goal.returns
returns c =
    let plan = c.work-outcome.new.plan in
    let between = driver_of c.work-outcome.new.node plan in
    let work = subst (λ (n : HostedParts). DoesWork c.args.now c.args.word (driver_of n c.args.plan.now) c.work-outcome.result between) c.in_ok-begin_batch.ensures.2 c.work-outcome.ensures in
    time_driven c.args.now c.args.word (driver_of c.args.node.now c.args.plan.now) (driver_of c.close.new.node plan) c.work-outcome.result (record {
      ready = c.in_ok-begin_batch.ensures.0;
      closed = c.in_ok-begin_batch.ensures.1;
      between = between;
      work = work;
      last = between;
      fulfils = (refl, refl);
      ends = ap (λ (n : HostedParts). driver_of n plan) c.close.ensures;
    })
