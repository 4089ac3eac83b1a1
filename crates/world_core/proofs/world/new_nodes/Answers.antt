use Rattle.std.proofs.Common.{rules}
use Rattle.restart_images.specs.Node.{new_node}
use Rattle.world_core.proofs.Lists.{pushed}
use Rattle.world_core.proofs.world.new_nodes.Goals as goal

pub loop-number-preserved : goal.loop-number-preserved
loop-number-preserved c =
    pushed new_node c.loop-number.number c.loop-number.nodes.items c.push.new.self.items c.in_ok-new.field-0 c.loop-number.invariant (search rules) (search rules)
