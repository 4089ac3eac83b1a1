use Rattle.std.proofs.Common.{All, IfErr}
use Rattle.cluster_worker.specs.Worked.{EndsRun}
use Rattle.cluster.proofs.Gathered.{AreAdded}
use Rattle.cluster.proofs.run.gather.Given as goal

abbrev pub invariant-loop-outcome : goal.invariant-loop-outcome
invariant-loop-outcome l =
    let rest = l.outcome-iterator.rest.items in record {
      ends : All (λ outcome. IfErr outcome EndsRun) rest;
      added : AreAdded l.fn.outcomes.items rest l.run;
    }
