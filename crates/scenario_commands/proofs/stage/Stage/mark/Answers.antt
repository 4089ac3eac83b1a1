use Rattle.std.proofs.Common.{◌≤◌, length, sym, ap, subst, ◌∙◌}
use Rattle.scenario_commands.specs.Obeying.{Stage, with_given, with_new}
use Rattle.scenario_commands.proofs.Marks.{marked_still, set_alone}
use Rattle.scenario_commands.proofs.Results.{on_ok}
use Rattle.scenario_commands.proofs.stage.Stage.mark.Goals as goal

within : (c : goal.After-set_mark) → c.args.frame ≤ length c.self.inside.world.frames
within c = subst (λ (s : Stage). c.args.frame ≤ length s.world.frames) (sym c.self.view_is) c.requires.1

pub invariant_of-self : goal.invariant_of-self
invariant_of-self c =
    marked_still c.set_mark.result (length c.self.inside.world.frames) c.self.inside.settled c.args.frame c.self.inside.given.items c.set_mark.new.marks.items c.requires.0 (within c)
    c.self.invariant c.set_mark.ensures.set c.set_mark.ensures.same

pub returns-clause-given : goal.returns-clause-given
returns-clause-given c =
    let n = length c.self.inside.world.frames in
    on_ok c.set_mark.result
    (λ set. ap (with_new n) set ∙ set_alone n c.args.frame c.self.inside.given.items c.requires.0 (within c) ∙ ap (λ (s : Stage). with_given c.args.frame s.given) c.self.view_is)
    c.set_mark.ensures.set
