use Rattle.std.proofs.Common.{sym, ◌∙◌, subst, arith}
use Rattle.cluster_worker.specs.Passes.{ArePassesOf}
use Rattle.cluster_worker.specs.Serving.{life_of}
use Rattle.cluster_worker.proofs.Working.{begins, not_started}
use Rattle.cluster_worker.proofs.worker.work_as.Goals as goal

pub use_node-requires-clause-worker : goal.use_node-requires-clause-worker
use_node-requires-clause-worker g c =
    let n = g.J.Naming in
    let new = c.new-worker.ensures in
    begins c.args.shared.now.plan c.args.shared.now.inboxes.now (life_of n.node n.incarnation n.opening) c.new-worker.result
    (new.node ∙ (c.node.ensures ∙ c.requires.served.node))
    (subst (ArePassesOf c.args.shared.now.inboxes.now) (sym new.passes) c.requires.job.connected)
    new.nothing.0 new.nothing.1

pub returns-in-Err-clause-refused : goal.returns-in-Err-clause-refused
returns-in-Err-clause-refused g c =
    let limits = c.type_inv.shared in
    not_started c.args.shared.now.journal c.in-Err.field-0.fault (omega (arith, limits)) (omega (arith, limits)) c.in-Err.ensures.refused
