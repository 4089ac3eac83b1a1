use Rattle.std.proofs.Common.{◌≡◌, ◌≤◌, ◌+◌, ◌++◌, List, length, map, vec_capacity}
use Rattle.cluster.specs.Threads.{AreOutcomesOf, TaskView}
use Rattle.cluster.proofs.threads.join_all.Given as goal

-- those that were joined have done the first of the tasks
abbrev pub invariant-loop-handle : goal.invariant-loop-handle
invariant-loop-handle g l =
    let rest = l.handle-iterator.rest.items in record {
      room : length l.outcomes.items + length rest ≤ vec_capacity l.outcomes;
      joined : (done : List TaskView)
          × (done ++ map (λ h. h.promise) rest ≡ map (λ h. h.promise) l.fn.handles.items)
          × AreOutcomesOf done l.outcomes.items;
    }
