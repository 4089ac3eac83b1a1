use Rattle.std.proofs.Common.{rules, refl, sym, ap, subst, ◌∙◌}
use Rattle.std.specs.Prelude.{slice_set}
use Rattle.world_core.specs.Outcome.{Accepts}
use Rattle.world_core.specs.Steps.{MayRefuse}
use Rattle.world_core.specs.World.{World}
use Rattle.world_core.specs.Invariant.{IsWorld}
use Rattle.world_core.specs.contracts.world.World.{the_view}
use Rattle.world_core.proofs.Accepting.{Arrives, arrives, left, refuses, step_accepts, step_world}
use Rattle.world_core.proofs.Chronicles.{after_step, answered, put_back, same_world}
use Rattle.world_core.proofs.Outcomes.{accepts_left, kept, memory, refused, world_of}
use Rattle.world_core.proofs.world.World.step.Goals as goal

pub returns-in-Err : goal.returns-in-Err
returns-in-Err c = refused c.args.event c.in-Err.fault c.refuse.ensures c.in-Err.ensures.refused refl

pub returns-then-is_err : goal.returns-then-is_err
returns-then-is_err c =
    memory c.args.event c.refuse-then-is_err.ensures (same_world c.self.inside.chronicle c.reserve.new.self c.reserve.ensures.same refl ∙ c.self.view_is)

pub invariant_of-self-in-Ok-step : goal.invariant_of-self-in-Ok-step
invariant_of-self-in-Ok-step c =
    let w : World = the_view c.self.inside in
    let is : Arrives w c.args.event c.in-Ok.found.1 c.step.new.self c.in-Ok-step.given =
    (arrives w c.args.self.now c.self.view_is c.args.event c.in-Ok.found.0 c.in-Ok.found.1 c.index_mut.result.now c.step.new.self c.in-Ok-step.given c.requires
    c.in-Ok.ensures.place.0 c.in-Ok.ensures.place.1 c.in-Ok.ensures.named c.in-Ok.ensures.step (search rules) c.in-Ok-step.ensures.restorable c.in-Ok-step.ensures.held
    c.in-Ok-step.ensures.step) in
    kept _ (subst IsWorld (sym (
    after_step w.nodes c.self.inside.chronicle c.reserve.new.self c.accept.new.self c.args.event c.step.new.self c.in-Ok-step.given c.reserve.ensures.same
    (ap (λ m. slice_set w.nodes m c.step.new.self) c.in-Ok.ensures.place.0) c.accept.ensures.accepted c.accept.ensures.frames c.accept.ensures.contexts))
    (step_world w (world_of w c.self.invariant) c.args.event c.in-Ok.found.1 c.step.new.self c.in-Ok-step.given is))

pub returns-in-Ok-step : goal.returns-in-Ok-step
returns-in-Ok-step c =
    let w : World = the_view c.self.inside in
    let is : Arrives w c.args.event c.in-Ok.found.1 c.step.new.self c.in-Ok-step.given =
    (arrives w c.args.self.now c.self.view_is c.args.event c.in-Ok.found.0 c.in-Ok.found.1 c.index_mut.result.now c.step.new.self c.in-Ok-step.given c.requires
    c.in-Ok.ensures.place.0 c.in-Ok.ensures.place.1 c.in-Ok.ensures.named c.in-Ok.ensures.step (search rules) c.in-Ok-step.ensures.restorable c.in-Ok-step.ensures.held
    c.in-Ok-step.ensures.step) in
    let accepts = step_accepts w c.args.event c.in-Ok.found.1 c.step.new.self c.in-Ok-step.given is in
    let answer =
    answered w.nodes c.self.inside.chronicle c.reserve.new.self c.in-Ok-step.given c.accept.result c.reserve.ensures.same c.in-Ok-step.ensures.step.copy c.accept.ensures.answer in
    accepts_left c.args.event c.accept.result refl
    (after_step w.nodes c.self.inside.chronicle c.reserve.new.self c.accept.new.self c.args.event c.step.new.self c.in-Ok-step.given c.reserve.ensures.same
    (ap (λ m. slice_set w.nodes m c.step.new.self) c.in-Ok.ensures.place.0) c.accept.ensures.accepted c.accept.ensures.frames c.accept.ensures.contexts)
    (subst (λ (v : World). Accepts v c.args.event c.accept.result (left w c.args.event c.step.new.self c.in-Ok-step.given)) c.self.view_is
    (subst (λ a. Accepts w c.args.event a (left w c.args.event c.step.new.self c.in-Ok-step.given)) (sym answer) accepts))

pub returns-in-Err-step : goal.returns-in-Err-step
returns-in-Err-step c =
    let w : World = the_view c.self.inside in
    refused c.args.event c.from.result c.refuse-in-Err-step.ensures
    (subst (MayRefuse c.args.self.now c.args.event) (sym c.from.ensures)
    (refuses w c.args.self.now c.self.view_is c.args.event c.in-Ok.found.0 c.in-Ok.found.1 c.index_mut.result.now c.in-Err-step.fault c.requires
    c.in-Ok.ensures.place.0 c.in-Ok.ensures.place.1 c.in-Ok.ensures.named c.in-Ok.ensures.step (search rules) c.in-Err-step.ensures.refused))
    (same_world c.self.inside.chronicle c.reserve.new.self c.reserve.ensures.same
    (put_back w.nodes c.in-Ok.found.0 c.index_mut.result.now c.step.new.self (search rules) c.in-Err-step.ensures.same) ∙ c.self.view_is)
