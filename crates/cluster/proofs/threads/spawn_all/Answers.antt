use Rattle.std.proofs.Common.{rules, ◌≡◌, ◌∷◌, ◌++◌, [], length, map, All, sym, subst, ap, ◌∙◌, arith}
use Rattle.std.proofs.lemmas.List.{length_push}
use Rattle.std.proofs.lemmas.List.Elements.{All-head, All-tail}
use Rattle.cluster_worker.specs.Serving.{life_of_file}
use Rattle.cluster_worker.specs.Worked.{IsJob}
use Rattle.cluster_worker.specs.declared.worker.Job.{Job}
use Rattle.cluster_worker.proofs.Places.{all_over, goes_over, no_more, none_left}
use Rattle.cluster.specs.Threads.{task_of}
use Rattle.cluster.proofs.threads.spawn_all.Goals as goal

pub loop-job-init : goal.loop-job-init
loop-job-init g c =
    let plan = c.args.shared.now.plan in
    let none = c.requires.handles.0 in
    let began : c.into_iter-job-iterator.result.rest.items ≡ c.args.jobs.items = search rules in
    record {
      room = omega (arith, ap length none, ap length began, c.requires.handles.1);
      jobs = subst (All (λ (job : Job g.row.D.Denot). IsJob g.D.Device.content c.args.shared.now.inboxes.now job.served.file job.served.table job.passes)) (sym began) c.requires.jobs;
      tasks =
          ap (λ hs. map (λ h. h.promise) hs ++ map (λ (job : Job g.row.D.Denot). task_of plan (life_of_file job.served.file job.served.table)) c.into_iter-job-iterator.result.rest.items) none
          ∙ ap (map (λ (job : Job g.row.D.Denot). task_of plan (life_of_file job.served.file job.served.table))) began;
    }

pub spawn_with-spawned-requires-clause-runs : goal.spawn_with-spawned-requires-clause-runs
spawn_with-spawned-requires-clause-runs g c =
    let all = subst (All (λ (job : Job g.row.D.Denot). IsJob g.D.Device.content c.args.shared.now.inboxes.now job.served.file job.served.table job.passes)) c.in-Some.ensures.steps.0 c.loop-job.invariant.jobs in
    let is : IsJob g.D.Device.content c.args.shared.now.inboxes.now c.in-Some.job.served.file c.in-Some.job.served.table c.in-Some.job.passes =
    All-head (λ (job : Job g.row.D.Denot). IsJob g.D.Device.content c.args.shared.now.inboxes.now job.served.file job.served.table job.passes) c.in-Some.job c.next.new.self.rest.items all in
    search rules

pub loop-job-preserved : goal.loop-job-preserved
loop-job-preserved g c =
    let plan = c.args.shared.now.plan in
    let was = c.loop-job.invariant in
    let is = c.in-Some.ensures.steps.0 in
    let handles = c.loop-job.handles.items in
    let handle = c.in-Ok.handle in
    let job = c.in-Some.job in
    let rest = c.next.new.self.rest.items in
    let more : c.push_reserved.new.self.items ≡ handles ++ handle ∷ [] = c.push_reserved.ensures.items in
    let grown = ap length more ∙ length_push handles handle in
    let task : handle.promise ≡ task_of plan (life_of_file job.served.file job.served.table) = search rules in
    record {
      room = omega (arith, was.room, grown, ap length is, c.push_reserved.ensures.capacity);
      jobs = All-tail (λ (job : Job g.row.D.Denot). IsJob g.D.Device.content c.args.shared.now.inboxes.now job.served.file job.served.table job.passes) job rest (subst (All (λ (job : Job g.row.D.Denot). IsJob g.D.Device.content c.args.shared.now.inboxes.now job.served.file job.served.table job.passes)) is was.jobs);
      tasks =
          ap (λ hs. map (λ h. h.promise) hs ++ map (λ (job : Job g.row.D.Denot). task_of plan (life_of_file job.served.file job.served.table)) rest) more
          ∙ (goes_over (λ h. h.promise) (λ (job : Job g.row.D.Denot). task_of plan (life_of_file job.served.file job.served.table)) handles handle job rest task
          ∙ (ap (λ js. map (λ h. h.promise) handles ++ map (λ (job : Job g.row.D.Denot). task_of plan (life_of_file job.served.file job.served.table)) js) (sym is)
          ∙ was.tasks));
    }

pub returns-in-Err-clause-few : goal.returns-in-Err-clause-few
returns-in-Err-clause-few g c =
    let plan = c.args.shared.now.plan in
    no_more (λ h. h.promise) (λ (job : Job g.row.D.Denot). task_of plan (life_of_file job.served.file job.served.table)) c.loop-job.handles.items c.loop-job.job-iterator.rest.items c.args.jobs.items c.loop-job.invariant.tasks

pub returns-clause-tasks : goal.returns-clause-tasks
returns-clause-tasks g c _ =
    let plan = c.args.shared.now.plan in
    let few : length c.loop-job.job-iterator.rest.items ≡ 0 = search rules in
    let none = none_left c.loop-job.job-iterator.rest.items few in
    all_over (λ h. h.promise) (λ (job : Job g.row.D.Denot). task_of plan (life_of_file job.served.file job.served.table)) c.loop-job.handles.items c.loop-job.job-iterator.rest.items c.args.jobs.items none c.loop-job.invariant.tasks

pub returns-clause-few : goal.returns-clause-few
returns-clause-few g c =
    let plan = c.args.shared.now.plan in
    no_more (λ h. h.promise) (λ (job : Job g.row.D.Denot). task_of plan (life_of_file job.served.file job.served.table)) c.loop-job.handles.items c.loop-job.job-iterator.rest.items c.args.jobs.items c.loop-job.invariant.tasks
