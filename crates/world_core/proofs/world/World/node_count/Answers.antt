use Rattle.std.proofs.Common.{rules}
use Rattle.world_core.proofs.Outcomes.{world_of}
use Rattle.world_core.proofs.world.World.node_count.Goals as goal

pub returns-clause-range : goal.returns-clause-range
returns-clause-range c =
    let is = world_of _ c.self.invariant in
    let some = is.some in
    let few = is.few in
    search rules
