use Rattle.plumctl_live.proofs.Counted.{of_devices}
use Rattle.plumctl_live.proofs.run.run_live_on.Goals as goal

pub tell_run-requires : goal.tell_run-requires
tell_run-requires g c =
    let run = c.run_cluster_on-run in
    of_devices g.D.Device.content c.args.plan c.args.devices.items run.result run.ensures.run (rw c.largest.ensures at run.ensures.accepted)
