use Rattle.std.proofs.Common.{◌≡◌, ◌≤◌, ◌+◌, ◌++◌, length, map, All, vec_capacity}
use Rattle.cluster_worker.specs.Serving.{life_of_file}
use Rattle.cluster_worker.specs.Worked.{IsJob}
use Rattle.cluster.specs.Threads.{task_of}
use Rattle.cluster.proofs.threads.spawn_all.Given as goal

-- each thread has the task of its job
abbrev pub invariant-loop-job : goal.invariant-loop-job
invariant-loop-job g l =
    let rest = l.job-iterator.rest.items in
    let plan = l.fn.shared.plan in record {
      room : length l.handles.items + length rest ≤ vec_capacity l.handles;
      jobs : All (λ job. IsJob g.D.Device.content l.fn.shared.inboxes.now
          job.served.file job.served.table job.passes) rest;
      tasks : map (λ h. h.promise) l.handles.items
          ++ map (λ job. task_of plan (life_of_file job.served.file job.served.table)) rest
          ≡ map (λ job. task_of plan (life_of_file job.served.file job.served.table)) l.fn.jobs.items;
    }
