use Rattle.std.proofs.Common.{rules, ◌≡◌, ◌+◌, length}
use Rattle.cluster_worker.specs.Frames.{up_to_most}
use Rattle.cluster.proofs.Gathered.{one_more, then_on_ok}
use Rattle.cluster.proofs.run.ClusterRun.add.Goals as goal

pub returns : goal.returns
returns c all was =
    let calls : c.saturating_add-self.result ≡ up_to_most (c.args.self.now.calls + length c.args.worked.closed.journal) = search rules in
    let lost : c.saturating_add-self-2.result ≡ up_to_most (c.args.self.now.lost + c.args.worked.lost) = search rules in
    then_on_ok c.add_if-stopped.result
    (λ stopped. one_more all c.args.worked c.args.self.now _ was c.in_ok-add_both.ensures.one c.in_ok-add_both.ensures.more calls lost stopped)
    c.add_if-stopped.ensures
