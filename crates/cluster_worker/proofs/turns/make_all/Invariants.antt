use Rattle.std.proofs.Common.{◌≤◌, ◌+◌}
use Rattle.cluster_worker.specs.Serving.{life_of}
use Rattle.cluster_worker.specs.Turns.{IsWorkerOf}
use Rattle.cluster_worker.proofs.Conveying.{HasAsked}
use Rattle.cluster_worker.proofs.turns.make_all.Given as goal

abbrev pub invariant-loop-turn : goal.invariant-loop-turn
invariant-loop-turn g l =
    let n = g.J.Naming in record {
      worker : IsWorkerOf l.shared.plan l.shared.inboxes.now (life_of n.node n.incarnation n.opening) l.seat l.worker;
      works : HasAsked l.shared.plan l.shared.inboxes.now l.fn.worker.node l.turn l.fn.worker l.worker;
      few : l.turn ≤ l.shared.plan.turns + 1;
    }
