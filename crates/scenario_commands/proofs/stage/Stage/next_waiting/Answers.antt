use Rattle.std.proofs.Common.{◌≡◌, ◌<◌, ◌≤◌, Bool, true, false, List, length, replicate, take, Some, sym, ap, subst, ◌∙◌, arith}
use Rattle.std.specs.Prelude.{slice_get}
use Rattle.scenario_commands.specs.Obeying.{waiting}
use Rattle.scenario_commands.proofs.Marks.{first_behind, none_behind}
use Rattle.scenario_commands.proofs.stage.Stage.next_waiting.Goals as goal
use Rattle.scenario_commands.proofs.stage.Stage.next_waiting.Goals.{then-settled-frame_count, else-settled-frame_count}

pub returns-clause-value : goal.returns-clause-value
returns-clause-value c =
    let frames = length c.self.inside.world.frames in
    let marks = c.self.inside.given.items in
    let count = c.count_set-self-inside.result in
    let set = subst (λ (ms : List Bool). take count ms ≡ replicate count true) c.as_slice.ensures.value c.count_set-self-inside.ensures.set in
    let next = subst (λ (ms : List Bool). count < length ms → slice_get ms count ≡ Some false) c.as_slice.ensures.value c.count_set-self-inside.ensures.next in
    elim c.if-settled-frame_count.branch [
      | then-settled-frame_count w ↦
          let low : count < frames = omega (arith, w.if-settled-frame_count.true, c.frame_count.ensures) in
          w.result-is ∙ sym (first_behind frames count marks c.self.invariant.0 set next low) ∙ ap waiting c.self.view_is
      | else-settled-frame_count w ↦
          let all : frames ≤ count = omega (arith, w.if-settled-frame_count.false, c.frame_count.ensures) in
          w.result-is ∙ sym (none_behind frames count marks c.self.invariant.0 set all) ∙ ap waiting c.self.view_is
    ]
