use Rattle.std.proofs.Common.{rules, ◌<◌, ◌≤◌, ◌-◌, ◌++◌, [], length, drop, sym, ap, subst, ◌∙◌}
use Rattle.world_core.specs.Sharing.{frames_after}
use Rattle.world_core.proofs.Keeping.{IsPlaced, begun, down, how_many, low_now, placed, placed_as, step, within_own}
use Rattle.world_core.proofs.frames.bytes_at.Goals as goal

pub loop-left-init : goal.loop-left-init
loop-left-init c =
    begun (frames_after [] c.args.kept.now) c.args.place _ c.in_ok-bytes.bytes.items
    (subst (λ n. c.args.place < n) (sym (how_many c.args.kept.now)) c.requires.there)
    (placed c.args.kept.now c.args.place c.index-kept-place.result c.requires.shared c.requires.there).length c.in_ok-bytes.ensures.items

pub offset_bounds-kept-at : goal.offset_bounds-kept-at
offset_bounds-kept-at c =
    let low : c.loop-left.at < length c.args.kept.now = low_now c.args.kept.now c.args.place c.loop-left.at c.loop-left.left c.loop-left.bytes.items c.loop-left-test.true c.loop-left.invariant in
    search rules

pub bounds-kept-at : goal.bounds-kept-at
bounds-kept-at c = low_now c.args.kept.now c.args.place c.loop-left.at c.loop-left.left c.loop-left.bytes.items c.loop-left-test.true c.loop-left.invariant

pub overflow_sub-own : goal.overflow_sub-own
overflow_sub-own c =
    let low : c.loop-left.at < length c.args.kept.now = low_now c.args.kept.now c.args.place c.loop-left.at c.loop-left.left c.loop-left.bytes.items c.loop-left-test.true c.loop-left.invariant in
    let is : IsPlaced (frames_after [] c.args.kept.now) c.loop-left.at c.index-kept-at.result = placed_as c.args.kept.now c.loop-left.at c.index-kept-at.result c.requires.shared low c.index-kept-at.is in
    let few : c.loop-left.left - c.index-kept-at.result.shared ≤ length c.index-kept-at.result.own.items =
    within_own (frames_after [] c.args.kept.now) c.args.place c.loop-left.at c.loop-left.left c.loop-left.bytes.items c.index-kept-at.result c.loop-left.invariant is in
    subst (λ own. c.saturating_sub.result ≤ length own) (sym c.as_slice-own.ensures.value) (subst (λ n. n ≤ length c.index-kept-at.result.own.items) (sym c.saturating_sub.ensures) few)

pub loop-left-smaller : goal.loop-left-smaller
loop-left-smaller c =
    let low : c.loop-left.at < length c.args.kept.now = low_now c.args.kept.now c.args.place c.loop-left.at c.loop-left.left c.loop-left.bytes.items c.loop-left-test.true c.loop-left.invariant in
    let is : IsPlaced (frames_after [] c.args.kept.now) c.loop-left.at c.index-kept-at.result = placed_as c.args.kept.now c.loop-left.at c.index-kept-at.result c.requires.shared low c.index-kept-at.is in
    down c.index-kept-at.result c.loop-left.at c.loop-left.left c.min-left.result c.loop-left-test.true is.earlier c.min-left.ensures

pub loop-left-preserved : goal.loop-left-preserved
loop-left-preserved c =
    let low : c.loop-left.at < length c.args.kept.now = low_now c.args.kept.now c.args.place c.loop-left.at c.loop-left.left c.loop-left.bytes.items c.loop-left-test.true c.loop-left.invariant in
    let is : IsPlaced (frames_after [] c.args.kept.now) c.loop-left.at c.index-kept-at.result = placed_as c.args.kept.now c.loop-left.at c.index-kept-at.result c.requires.shared low c.index-kept-at.is in
    step (frames_after [] c.args.kept.now) c.args.place c.loop-left.at c.loop-left.left c.min-left.result c.loop-left.bytes.items c.extend_from_slice.new.self.items c.index-kept-at.result
    c.loop-left-test.true c.loop-left.invariant is (subst (λ n. c.loop-left.at < n) (sym (how_many c.args.kept.now)) low)
    (c.in_ok-extend_from_slice.ensures.items ∙ ap (λ x. c.loop-left.bytes.items ++ x) (c.split_at.ensures.back
    ∙ (λ i. drop (length (c.as_slice-own.ensures.value i) - c.saturating_sub.ensures i) (c.as_slice-own.ensures.value i))))
    c.min-left.ensures
