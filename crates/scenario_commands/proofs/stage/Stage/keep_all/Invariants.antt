use Rattle.std.proofs.Common.{◌≡◌, length, take}
use Rattle.scenario_commands.specs.Obeying.{KeepsAll}
use Rattle.scenario_commands.proofs.stage.Stage.keep_all.Given as goal

abbrev pub invariant-loop-key : goal.invariant-loop-key
invariant-loop-key l = KeepsAll l.fn.self l.node (take l.key-index l.keys) l.self × (length l.self.world.nodes ≡ length l.fn.self.world.nodes)
