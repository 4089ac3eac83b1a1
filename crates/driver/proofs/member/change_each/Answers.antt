use Rattle.std.proofs.Common.{◌<◌, length, arith}
use Rattle.driver.specs.Plan.{learn}
use Rattle.peer_lists.proofs.Mapped.{next_written}
use Rattle.driver.proofs.member.change_each.Goals as goal

pub loop-place-preserved : goal.loop-place-preserved
loop-place-preserved c =
    let within : c.loop-place.place < length c.loop-place.members.items = omega arith in
    next_written (learn c.args.change c.args.node) c.args.members.now.items c.loop-place.members.items c.loop-place.place c.index.result.now c.learn.result
    within c.loop-place.invariant.0 c.loop-place.invariant.1 c.index.ensures c.learn.ensures
