use Rattle.scenario_commands.specs.Obeying.{HandsOnEach}
use Rattle.scenario_commands.proofs.stage.Stage.hand_on_all.Given as goal

abbrev pub invariant-loop-delivered : goal.invariant-loop-delivered
invariant-loop-delivered l = HandsOnEach l.fn.self l.delivered l.self
