use Rattle.std.proofs.Common.{◌≡◌, map}
use Rattle.std.specs.List.{range_with_len}
use Rattle.restart_images.specs.Node.{new_node}
use Rattle.world_core.proofs.world.new_nodes.Given as goal

abbrev pub invariant-loop-number : goal.invariant-loop-number
invariant-loop-number l = l.nodes.items ≡ map new_node (range_with_len 0 l.number)
