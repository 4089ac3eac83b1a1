use Rattle.std.proofs.Common.{rules, ◌<◌, [], length, subst, sym, arith}
use Rattle.world_core.specs.Sharing.{frames_after}
use Rattle.world_core.proofs.Keeping.{IsPlaced, at_first, how_many, less, low_now, passed, placed_as}
use Rattle.world_core.proofs.frames.keeper.Goals as goal

pub loop-frame-init : goal.loop-frame-init
loop-frame-init c = at_first c.args.kept.now c.args.place c.args.count c.requires.there c.requires.within

pub offset_bounds-kept-at : goal.offset_bounds-kept-at
offset_bounds-kept-at c =
    let low : c.loop-frame.at < length c.args.kept.now = low_now c.args.kept.now c.args.place c.loop-frame.at c.args.count _ c.loop-frame-test.true c.loop-frame.invariant in
    search rules

pub bounds-kept-at : goal.bounds-kept-at
bounds-kept-at c = low_now c.args.kept.now c.args.place c.loop-frame.at c.args.count _ c.loop-frame-test.true c.loop-frame.invariant

pub loop-frame-smaller : goal.loop-frame-smaller
loop-frame-smaller c =
    let low : c.loop-frame.at < length c.args.kept.now = low_now c.args.kept.now c.args.place c.loop-frame.at c.args.count _ c.loop-frame-test.true c.loop-frame.invariant in
    let is : IsPlaced (frames_after [] c.args.kept.now) c.loop-frame.at c.index-kept-at.result = placed_as c.args.kept.now c.loop-frame.at c.index-kept-at.result c.requires.shared low c.index-kept-at.is in
    less c.index-kept-at.result c.loop-frame.at c.args.count c.loop-frame-test.true (omega (arith, c.if-frame-count.false)) is.earlier

pub loop-frame-preserved : goal.loop-frame-preserved
loop-frame-preserved c =
    let low : c.loop-frame.at < length c.args.kept.now = low_now c.args.kept.now c.args.place c.loop-frame.at c.args.count _ c.loop-frame-test.true c.loop-frame.invariant in
    let is : IsPlaced (frames_after [] c.args.kept.now) c.loop-frame.at c.index-kept-at.result = placed_as c.args.kept.now c.loop-frame.at c.index-kept-at.result c.requires.shared low c.index-kept-at.is in
    passed (frames_after [] c.args.kept.now) c.args.place c.loop-frame.at c.args.count _ c.index-kept-at.result c.loop-frame-test.true
    (omega (arith, c.if-frame-count.false)) c.loop-frame.invariant is (subst (λ n. c.loop-frame.at < n) (sym (how_many c.args.kept.now)) low)
