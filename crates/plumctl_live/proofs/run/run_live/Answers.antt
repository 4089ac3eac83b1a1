use Rattle.plumctl_live.proofs.Counted.{of_new}
use Rattle.plumctl_live.proofs.run.run_live.Goals as goal

pub tell_run-requires : goal.tell_run-requires
tell_run-requires g c = of_new c.args.plan c.run_cluster-run.result c.run_cluster-run.ensures.run
