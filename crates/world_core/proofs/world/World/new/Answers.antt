use Rattle.std.proofs.Common.{rules, ◌≡◌, ◌≤◌, map, sym, subst}
use Rattle.std.specs.List.{range_with_len}
use Rattle.restart_images.specs.Node.{new_node}
use Rattle.world_core.specs.World.{new_world}
use Rattle.world_core.specs.Invariant.{IsWorld}
use Rattle.world_core.proofs.Outcomes.{kept, world_is}
use Rattle.world_core.proofs.Worlds.{world_new}
use Rattle.world_core.proofs.world.World.new.Goals as goal

pub invariant_of-result : goal.invariant_of-result
invariant_of-result c =
    let nodes : c.in_ok-new_nodes.field-0.items ≡ map new_node (range_with_len 0 c.args.nodes) = search rules in
    let some : 1 ≤ c.args.nodes = search rules in
    let few : c.args.nodes ≤ 16 = search rules in
    kept _ (subst IsWorld (sym (world_is (new_world c.args.nodes) nodes c.new.ensures.accepted c.new.ensures.frames c.new.ensures.contexts)) (world_new c.args.nodes some few))
