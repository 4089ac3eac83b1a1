use Rattle.std.proofs.Common.{rules, ◌≡◌, ◌≤◌, [], length, vec_capacity}
use mir.Syntax.{of_param}
use denote.Param.Send.{Quiet-if}
use Rattle.cluster.proofs.threads.work_all.Goals as goal

pub scoped-requires : goal.scoped-requires
scoped-requires g c =
    let jobs = c.requires in
    let number : c.len.result ≡ length c.args.jobs.items = search rules in
    let number-2 : c.len-2.result ≡ length c.args.jobs.items = search rules in
    let handles : c.in_ok-handles.handles.items ≡ [] = search rules in
    let outcomes : c.in_ok-outcomes.outcomes.items ≡ [] = search rules in
    let room : length c.args.jobs.items ≤ vec_capacity c.in_ok-handles.handles = search rules in
    let room-2 : length c.args.jobs.items ≤ vec_capacity c.in_ok-outcomes.outcomes = search rules in
    record { at = λ a. (jobs, ((handles, room), ((outcomes, room-2), (record { owned = c.type_bounds.send-D.owned; leaving = λ k. Quiet-if (k (of_param 0)) _ _ (λ x w. tt) (λ x w. tt) }, record { shared = c.type_bounds.sync-R.shared }, record { shared = c.type_bounds.sync-G.shared })))) }
