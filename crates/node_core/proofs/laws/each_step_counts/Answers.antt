use Rattle.node_core.proofs.Runs.{each_counts}
use Rattle.node_core.proofs.laws.each_step_counts.Goals as goal

pub returns : goal.returns
returns c = each_counts
