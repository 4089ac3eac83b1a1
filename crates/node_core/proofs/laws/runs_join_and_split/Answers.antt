use Rattle.node_core.proofs.Runs.{runs_join}
use Rattle.node_core.proofs.laws.runs_join_and_split.Goals as goal

pub returns : goal.returns
returns c = runs_join
