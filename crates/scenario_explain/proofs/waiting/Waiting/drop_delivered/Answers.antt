use Rattle.std.proofs.Common.{sym, subst, ◌∙◌}
use Rattle.scenario_explain.specs.Noting.{NotesFront}
use Rattle.scenario_explain.proofs.Noting.{front_given, front_not_given}
use Rattle.scenario_explain.proofs.waiting.Waiting.drop_delivered.Goals as goal

pub returns-then-was_given : goal.returns-then-was_given
returns-then-was_given c =
    subst (λ n. NotesFront c.drop_frame.new.self.frames.items n c.args.stage.now.given) (sym c.drop_frame.ensures.seen)
    (front_given _ _ _ c.args.frame c.requires.before _ c.requires.noted (sym c.was_given.ensures ∙ c.if-was_given.true) c.requires.sets c.drop_frame.ensures.frames)

pub returns-else-was_given : goal.returns-else-was_given
returns-else-was_given c = front_not_given _ _ c.args.frame c.requires.before _ c.requires.noted (sym c.was_given.ensures ∙ c.if-was_given.false) c.requires.sets
