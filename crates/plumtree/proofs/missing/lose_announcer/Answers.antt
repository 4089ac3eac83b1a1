use Rattle.std.proofs.Common.{◌<◌, length, arith}
use Rattle.plumtree.specs.Rows.{without_announcer}
use Rattle.peer_lists.proofs.Mapped.{next_written}
use Rattle.plumtree.proofs.missing.lose_announcer.Goals as goal

pub loop-place-preserved : goal.loop-place-preserved
loop-place-preserved c =
    let within : c.loop-place.place < length c.loop-place.missing.items = omega arith in
    next_written (without_announcer c.args.node) c.args.missing.now.items c.loop-place.missing.items c.loop-place.place c.index_mut.result.now c.lose_announcer.new.self
    within c.loop-place.invariant.0 c.loop-place.invariant.1 c.index_mut.ensures.value c.lose_announcer.ensures
