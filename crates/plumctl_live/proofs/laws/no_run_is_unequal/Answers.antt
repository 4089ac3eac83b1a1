use Rattle.plumctl_live.proofs.Ended.{no_run_is_unequal}
use Rattle.plumctl_live.proofs.laws.no_run_is_unequal.Goals as goal

pub returns : goal.returns
returns c = no_run_is_unequal
