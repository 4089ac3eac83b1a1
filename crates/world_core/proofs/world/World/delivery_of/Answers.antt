use Rattle.std.proofs.Common.{rules, inr, refl}
use Rattle.world_core.proofs.world.World.delivery_of.Goals as goal

pub returns-in-None-clause-refused : goal.returns-in-None-clause-refused
returns-in-None-clause-refused c = inr (refl, search rules)
