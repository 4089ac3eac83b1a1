use Rattle.node_core.proofs.Leaves.{each_step_leaves}
use Rattle.node_core.proofs.laws.what_a_step_leaves.Goals as goal

pub returns : goal.returns
returns c = each_step_leaves
