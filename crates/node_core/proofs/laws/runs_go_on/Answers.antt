use Rattle.node_core.proofs.Outcomes.{each_run_goes_on}
use Rattle.node_core.proofs.laws.runs_go_on.Goals as goal

pub returns : goal.returns
returns c = each_run_goes_on
