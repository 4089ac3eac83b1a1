use Rattle.std.proofs.Common.{rules}
use Rattle.world_core.proofs.Outcomes.{few_nodes}
use Rattle.world_core.proofs.world.World.node_id.Goals as goal

pub unwrap-number-requires : goal.unwrap-number-requires
unwrap-number-requires c = let few = few_nodes _ c.self.invariant in search rules

pub unwrap-requires : goal.unwrap-requires
unwrap-requires c = let few = few_nodes _ c.self.invariant in search rules
