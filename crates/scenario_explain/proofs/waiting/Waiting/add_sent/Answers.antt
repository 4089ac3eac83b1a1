use Rattle.std.proofs.Common.{◌≡◌, ◌<◌, ◌+◌, ap, arith, length, subst, sym, ◌∙◌}
use Rattle.world_core.specs.World.{World}
use Rattle.scenario_explain.specs.declared.waiting.Waiting.{Waiting}
use Rattle.scenario_explain.specs.Noting.{NotesFront}
use Rattle.scenario_explain.proofs.Noting.{all_noted, more_given, more_waits}
use Rattle.scenario_explain.proofs.waiting.Waiting.add_sent.Goals.{then-not-was_given+in_ok-push, else-not-was_given}
use Rattle.scenario_explain.proofs.waiting.Waiting.add_sent.Goals as goal

pub loop-place-preserved : goal.loop-place-preserved
loop-place-preserved c =
    let given = c.args.stage.now.given in
    let place = c.loop-place.place in
    let all : c.frame_count-count.result ≡ length given = c.frame_count-count.ensures ∙ ap (λ (w : World). length w.frames) c.world.ensures.world ∙ sym c.world.ensures.marks in
    let low : place < length given = omega (arith, c.loop-place-test.true, all) in
    elim c.if-not-was_given.branch [
      | then-not-was_given+in_ok-push w ↦
          more_waits c.loop-place.self.frames.items _ place given c.loop-place.invariant low (sym c.was_given.ensures ∙ w.if-not-was_given.true)
          (ap (λ (s : Waiting). s.frames.items) w.self-is ∙ w.in_ok-push.ensures.items)
      | else-not-was_given w ↦
          subst (λ (s : Waiting). NotesFront s.frames.items (place + 1) given) (sym w.self-is)
          (more_given c.loop-place.self.frames.items place given c.loop-place.invariant low (sym c.was_given.ensures ∙ w.if-not-was_given.false))
    ]

pub returns : goal.returns
returns c =
    let given = c.args.stage.now.given in
    let all : c.frame_count-count.result ≡ length given = c.frame_count-count.ensures ∙ ap (λ (w : World). length w.frames) c.world.ensures.world ∙ sym c.world.ensures.marks in
    let frames = c.loop-place.self.frames.items in
    let same : c.loop-place.place ≡ c.frame_count-count.result = omega (arith, c.loop-place-test.false, c.loop-place.invariant.within, all) in
    all_noted frames c.frame_count-count.result given (subst (λ n. NotesFront frames n given) same c.loop-place.invariant) all
