use Rattle.std.proofs.Common.{subst}
use Rattle.world_core.specs.Invariant.{IsWholeWorld}
use Rattle.world_core.proofs.Outcomes.{world_of}
use Rattle.world_core.proofs.world.World.accepted.Goals as goal

pub returns-clause-contexts : goal.returns-clause-contexts
returns-clause-contexts c = (world_of c.args.self.now (subst IsWholeWorld c.self.view_is c.self.invariant)).handed
