use Rattle.std.proofs.Common.{rules, ◌≡◌, length, map, All, None, vec_len, sym, subst, ap, ◌∙◌, arith}
use Rattle.std.proofs.lemmas.List.{length-map}
use Rattle.cluster_worker.specs.Passes.{ArePassesOf}
use Rattle.cluster_worker.specs.Plan.{refusal_of_run}
use Rattle.cluster.specs.Run.{CanRun, IsRunOf, RefusesGathering, RefusesRun}
use Rattle.cluster.specs.Threads.{AreOutcomesOf, task_of}
use Rattle.cluster_worker.specs.Serving.{life_of_file, lives_from}
use Rattle.cluster_worker.specs.declared.serving.ServedFile.{ServedFile}
use Rattle.cluster_worker.proofs.Made.{each_has_passes}
use Rattle.cluster.proofs.Gathered.{all_jobs, ends_run, err_more, inboxes_within, lives_count, ok_more, on_ok, refuses_gathering, refuses_working, run_of, tasks_of}
use Rattle.cluster.proofs.run.run_cluster_on.Goals as goal

pub connect-requires-clause-nodes : goal.connect-requires-clause-nodes
connect-requires-clause-nodes g c =
    let none : refusal_of_run c.args.plan c.args.limits (vec_len c.args.devices) ≡ None = search rules in
    let within = inboxes_within c.args.plan c.args.limits (vec_len c.args.devices) none in
    let served = c.in_ok-served.served.items in
    let devices = c.args.devices.items in
    let content = g.D.Device.content in
    let number : length served ≡ length devices =
    sym (length-map served (λ (s : ServedFile g.row.D.Denot). life_of_file s.file s.table))
    ∙ (ap length c.in_ok-served.ensures.lives ∙ (lives_count 0 (map content devices) ∙ length-map devices content)) in
    let same : c.len-2.result ≡ vec_len c.args.devices =
    (c.len-2.ensures ∙ c.in_ok-served.served.ok.0) ∙ (number ∙ sym c.args.devices.ok.0) in
    (omega (arith, same, within.0.0), omega (arith, same, within.0.1))

pub connect-requires-clause-room : goal.connect-requires-clause-room
connect-requires-clause-room g c =
    let none : refusal_of_run c.args.plan c.args.limits (vec_len c.args.devices) ≡ None = search rules in
    (inboxes_within c.args.plan c.args.limits (vec_len c.args.devices) none).1

pub work_all-outcomes-requires-after_bounds : goal.work_all-outcomes-requires-after_bounds
work_all-outcomes-requires-after_bounds g c κs within =
    all_jobs g.D.Device.content c.as_slice.result.now c.in_ok-jobs.jobs.items c.in_ok-served.served.items
    c.in_ok-inboxes.passes.items c.in_ok-jobs.ensures.served c.in_ok-jobs.ensures.passes
    c.in_ok-served.ensures.served
    (subst (λ is. All (ArePassesOf is) c.in_ok-inboxes.passes.items) (sym c.as_slice.ensures.value)
    (each_has_passes _ c.in_ok-inboxes.passes.items c.in_ok-inboxes.ensures.passes))

pub returns-in_err-outcomes-clause-refused : goal.returns-in_err-outcomes-clause-refused
returns-in_err-outcomes-clause-refused g c =
    let none : refusal_of_run c.args.plan c.args.limits (vec_len c.args.devices) ≡ None = search rules in
    let can : CanRun g.D.Device.content c.args.plan c.args.limits c.args.devices.items = record {
      none = subst (λ n. refusal_of_run c.args.plan c.args.limits n ≡ None) c.args.devices.ok.0 none;
      served = c.in_ok-served.ensures.can;
    } in
    let why = refuses_working g.D.Device.content g.D.Device.failed c.args.plan c.args.limits c.args.devices.items
    c.in_err-outcomes.field-0.0 can c.in_err-outcomes.ensures.refused in
    search rules

pub gather-requires : goal.gather-requires
gather-requires g c = ends_run _ c.in_ok-outcomes.field-0.items c.in_ok-outcomes.ensures.worked

pub returns-clause-run : goal.returns-clause-run
returns-clause-run g c =
    let lives = lives_from 0 (map g.D.Device.content c.args.devices.items) in
    let outcomes = c.in_ok-outcomes.field-0.items in
    let plan = c.args.plan in
    let same = tasks_of plan c.in_ok-jobs.jobs.items c.in_ok-served.served.items lives c.in_ok-jobs.ensures.served c.in_ok-served.ensures.lives in
    let worked : AreOutcomesOf (map (task_of plan) lives) outcomes =
    subst (λ tasks. AreOutcomesOf tasks outcomes) same c.in_ok-outcomes.ensures.worked in
    ok_more _ (IsRunOf plan lives) c.gather.result (λ run made. run_of plan lives outcomes run worked made) c.gather.ensures.run

pub returns-clause-accepted : goal.returns-clause-accepted
returns-clause-accepted g c =
    let none : refusal_of_run c.args.plan c.args.limits (vec_len c.args.devices) ≡ None = search rules in
    on_ok (CanRun g.D.Device.content c.args.plan c.args.limits c.args.devices.items) c.gather.result
    (record {
      none = subst (λ n. refusal_of_run c.args.plan c.args.limits n ≡ None) c.args.devices.ok.0 none;
      served = c.in_ok-served.ensures.can;
    })

pub returns-clause-refused : goal.returns-clause-refused
returns-clause-refused g c =
    let none : refusal_of_run c.args.plan c.args.limits (vec_len c.args.devices) ≡ None = search rules in
    let can : CanRun g.D.Device.content c.args.plan c.args.limits c.args.devices.items = record {
      none = subst (λ n. refusal_of_run c.args.plan c.args.limits n ≡ None) c.args.devices.ok.0 none;
      served = c.in_ok-served.ensures.can;
    } in
    err_more RefusesGathering (RefusesRun g.D.Device.content g.D.Device.failed c.args.plan c.args.limits c.args.devices.items)
    c.gather.result
    (λ fault why. refuses_gathering g.D.Device.content g.D.Device.failed c.args.plan c.args.limits c.args.devices.items fault can why)
    c.gather.ensures.refused
