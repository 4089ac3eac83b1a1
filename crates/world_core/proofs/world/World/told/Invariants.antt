use Rattle.world_core.proofs.Retelling.{ToldOf}
use Rattle.world_core.proofs.world.World.told.Given as goal

abbrev pub invariant-loop-accepted : goal.invariant-loop-accepted
invariant-loop-accepted l = ToldOf l.fn.self l.accepted-index l.told
