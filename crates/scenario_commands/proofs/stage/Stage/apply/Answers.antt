use Rattle.std.proofs.Common.{length, sym, arith}
use Rattle.scenario_commands.proofs.Marks.{with_new-with_new}
use Rattle.scenario_commands.proofs.Passing.{more_frames}
use Rattle.scenario_commands.proofs.stage.Stage.apply.Goals as goal

pub invariant_of-self : goal.invariant_of-self
invariant_of-self c =
    let more = more_frames _ _ c.args.event c.apply.result c.apply.ensures.comes in (omega (arith, c.self.invariant.0, more), c.self.invariant.1)

pub returns-clause-given : goal.returns-clause-given
returns-clause-given c =
    let more = more_frames _ _ c.args.event c.apply.result c.apply.ensures.comes in
    rw (← c.self.view_is) (sym (with_new-with_new (length c.self.inside.world.frames) (length c.apply.new.self.frames) c.self.inside.given.items c.self.invariant.0 more))
