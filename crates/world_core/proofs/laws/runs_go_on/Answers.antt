use Rattle.world_core.proofs.Running.{each_run_goes_on}
use Rattle.world_core.proofs.laws.runs_go_on.Goals as goal

pub returns : goal.returns
returns c = each_run_goes_on
