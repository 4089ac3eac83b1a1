use Rattle.std.proofs.Common.{◌<◌, length, arith}
use Rattle.plumtree.specs.Ticking.{ticked}
use Rattle.peer_lists.proofs.Mapped.{next_written}
use Rattle.plumtree.proofs.missing.lose_ticks.Goals as goal

pub loop-place-preserved : goal.loop-place-preserved
loop-place-preserved c =
    let within : c.loop-place.place < length c.loop-place.missing.items = omega arith in
    next_written ticked c.leave_overdue.new.missing.items c.loop-place.missing.items c.loop-place.place c.index_mut.result.now c.lose_tick.new.self
    within c.loop-place.invariant.0 c.loop-place.invariant.1 c.index_mut.ensures.value c.lose_tick.ensures
