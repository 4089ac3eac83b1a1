use Rattle.std.proofs.Common.{◌∷◌, ◌++◌, [], ◌<◌, length, sym, ◌∙◌, arith}
use Rattle.world_core.specs.Chronicle.{frames_in}
use Rattle.world_core.proofs.Lists.{part_more}
use Rattle.world_core.proofs.chronicle.Chronicle.frames_at.Goals as goal

pub loop-place-preserved : goal.loop-place-preserved
loop-place-preserved c =
    let high : c.loop-place.place < length (frames_in c.args.self.now) = omega (arith, c.loop-place-test.true, c.min-end.ensures, c.frame_count.ensures.value) in
    c.in_ok-push.ensures.items
    ∙ (λ i. c.loop-place.invariant i ++ c.in_ok-bytes.field-0 ∷ [])
    ∙ sym (part_more c.saturating_sub-first.result c.loop-place.place (frames_in c.args.self.now) c.in_ok-bytes.field-0 [] c.loop-place.auto.place high c.in_ok-bytes.ensures)
