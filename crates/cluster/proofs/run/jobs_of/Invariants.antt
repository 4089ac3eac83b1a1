use Rattle.std.proofs.Common.{◌≡◌, ◌≤◌, ◌++◌, ◌+◌, length, map, vec_capacity}
use Rattle.cluster.proofs.run.jobs_of.Given as goal

-- what is left of both goes into the jobs
abbrev pub invariant-loop-served : goal.invariant-loop-served
invariant-loop-served g l =
    let rest = l.served-iterator.rest.items in record {
      room : length l.jobs.items + length rest ≤ vec_capacity l.jobs;
      number : length l.passes.rest.items ≡ length rest;
      served : map (λ job. job.served) l.jobs.items ++ rest ≡ l.fn.served.items;
      links : map (λ job. job.passes) l.jobs.items ++ l.passes.rest.items ≡ l.fn.passes.items;
    }
