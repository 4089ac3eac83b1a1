-- What came of all workers, put together one by one.
use Rattle.std.proofs.Common.{◌≡◌, ◌≤◌, ◌+◌, ◌⊎◌, ℕ, nat_eq, nat_lt, Bool, true, false, not, ◌||◌, if◌then◌else◌, List, [], ◌∷◌, ◌++◌, filter, length, map, All, IfErr, IfOk, OnOk, None, Ok, Err, Result, ⊎_elim, refl, sym, ap, ◌∙◌, subst, arith}
use Rattle.std.specs.List.{AllZip, flat_map}
use Rattle.std.proofs.lemmas.Bool.{eqb-true, ltb-false}
use Rattle.std.proofs.lemmas.Grind.{flat_map-append}
use Rattle.std.proofs.lemmas.List.{append-nil, append_assoc, map-append, map_push}
use Rattle.std.proofs.lemmas.List.Elements.{All-cons, All-head, All-nil, All-tail, filter-append}
use Rattle.std.proofs.lemmas.List.Sums.{sum_by_push}
use Rattle.meta_types.specs.First.{first_that_applies}
use Rattle.node_call.specs.declared.fault.LockFault.{LockFault}
use Rattle.inbox.specs.Views.{InboxView}
use Rattle.cluster_worker.specs.Fault.{of_node}
use Rattle.cluster_worker.specs.Frames.{up_to_most}
use Rattle.cluster_worker.specs.Passes.{ArePassesOf}
use Rattle.cluster_worker.specs.Plan.{refusal_of_run}
use Rattle.cluster_worker.specs.Serving.{IsServed, LifeView, life_of_file, lives_from}
use Rattle.cluster_worker.specs.Worked.{EndsRun, HasWorked, IsJob, IsOutcomeOf}
use Rattle.cluster_worker.specs.declared.fault.ClusterFault.{ClusterFault}
use Rattle.cluster_worker.specs.declared.fault.ClusterFault.TheVariants.{BadLimit, File, Memory, Node, NoSuchNode, NoThread}
use Rattle.cluster_worker.specs.declared.passes.Passes.{Passes}
use Rattle.cluster_worker.specs.declared.plan.ClusterPlan.{ClusterPlan}
use Rattle.cluster_worker.specs.declared.plan.Limits.{Limits}
use Rattle.cluster_worker.specs.declared.serving.ServedFile.{ServedFile}
use Rattle.cluster_worker.specs.declared.worker.Job.{Job}
use Rattle.cluster_worker.specs.declared.worker.Worked.{Worked}
use Rattle.cluster.specs.Run.{CanRun, IsPutTogether, IsRunOf, RefusesGathering, RefusesRun}
use Rattle.cluster.specs.Threads.{AreOutcomesOf, TaskView, task_of}
use Rattle.cluster.specs.declared.run.ClusterRun.{ClusterRun}

-- who is stopped, once there is one worker more
stopped_push : (all : List Worked) (w : Worked)
    → map (λ (v : Worked). v.node) (filter (λ (v : Worked). v.is_stopped) (all ++ w ∷ []))
    ≡ map (λ (v : Worked). v.node) (filter (λ (v : Worked). v.is_stopped) all)
    ++ (if w.is_stopped then w.node ∷ [] else [])
stopped_push all w =
    ap (map (λ (v : Worked). v.node)) (filter-append (λ (v : Worked). v.is_stopped) all (w ∷ []))
    ∙ (map-append (λ (v : Worked). v.node) (filter (λ (v : Worked). v.is_stopped) all) (filter (λ (v : Worked). v.is_stopped) (w ∷ []))
    ∙ ap (λ l. map (λ (v : Worked). v.node) (filter (λ (v : Worked). v.is_stopped) all) ++ l) (of_one w.is_stopped refl))
  where
    of_one : (b : Bool) → w.is_stopped ≡ b
        → map (λ (v : Worked). v.node) (filter (λ (v : Worked). v.is_stopped) (w ∷ []))
        ≡ (if w.is_stopped then w.node ∷ [] else [])
    of_one true is = rw (is) refl
    of_one false is = rw (is) refl

-- what one more worker adds
pub one_more : (all : List Worked) (w : Worked) (old new : ClusterRun) → IsPutTogether all old
    → new.closed.items ≡ old.closed.items ++ w.closed ∷ []
    → new.receipts.items ≡ old.receipts.items ++ w.receipts.items
    → new.calls ≡ up_to_most (old.calls + length w.closed.journal)
    → new.lost ≡ up_to_most (old.lost + w.lost)
    → new.stopped.items ≡ old.stopped.items ++ (if w.is_stopped then w.node ∷ [] else [])
    → IsPutTogether (all ++ w ∷ []) new
one_more all w old new was closed receipts calls lost stopped =
    let entries = sum_by_push (λ (v : Worked). length v.closed.journal) all w in
    let frames = sum_by_push (λ (v : Worked). v.lost) all w in
    let one : flat_map (λ (v : Worked). v.receipts.items) (w ∷ []) ≡ w.receipts.items =
    append-nil w.receipts.items in record {
      closed = closed
          ∙ (ap (λ l. l ++ w.closed ∷ []) was.closed ∙ sym (map_push (λ (v : Worked). v.closed) all w));
      receipts = receipts
          ∙ (ap (λ l. l ++ w.receipts.items) was.receipts
          ∙ (ap (λ l. flat_map (λ (v : Worked). v.receipts.items) all ++ l) (sym one)
          ∙ sym (flat_map-append (λ (v : Worked). v.receipts.items) all (w ∷ []))));
      calls = omega (arith, calls, was.calls, entries);
      lost = omega (arith, lost, was.lost, frames);
      stopped = stopped
          ∙ (ap (λ l. l ++ (if w.is_stopped then w.node ∷ [] else [])) was.stopped
          ∙ sym (stopped_push all w));
    }

-- the first of these outcomes were added to the run, and those are left
abbrev pub AreAdded : List (Result Worked LockFault) → List (Result Worked LockFault) → ClusterRun
    → Type 0
AreAdded outcomes rest run = (all : List Worked) × (map Ok all ++ rest ≡ outcomes)
    × IsPutTogether all run

-- this worker is added
abbrev pub Adds : Worked → ClusterRun → ClusterRun → Type 0
Adds w old new = (all : List Worked) → IsPutTogether all old → IsPutTogether (all ++ w ∷ []) new

pub added_more : (outcomes left rest : List (Result Worked LockFault)) (w : Worked)
    (old new : ClusterRun) → left ≡ Ok w ∷ rest → Adds w old new → AreAdded outcomes left old
    → AreAdded outcomes rest new
added_more outcomes left rest w old new is adds was = (
  was.0 ++ w ∷ [],
  ap (λ l. l ++ rest) (map_push Ok was.0 w)
      ∙ (append_assoc (map Ok was.0) (Ok w ∷ []) rest
      ∙ (ap (λ l. map Ok was.0 ++ l) (sym is) ∙ was.1)),
  adds was.0 was.2,
)

-- once no outcome is left, all were added
pub all_added : (outcomes rest : List (Result Worked LockFault)) (run : ClusterRun) → rest ≡ []
    → AreAdded outcomes rest run
    → (all : List Worked) × (outcomes ≡ map Ok all) × IsPutTogether all run
all_added outcomes rest run none was =
    (was.0, sym was.1 ∙ (ap (λ l. map Ok was.0 ++ l) none ∙ append-nil (map Ok was.0)), was.2)

-- if all workers came to their end, this came of each
pub each_worked : (plan : ClusterPlan) (lives : List LifeView) (all : List Worked)
    → AreOutcomesOf (map (task_of plan) lives) (map Ok all) → AllZip (HasWorked plan) lives all
each_worked plan [] [] are = tt
each_worked plan [] (w ∷ all) are = absurd are
each_worked plan (life ∷ lives) [] are = absurd are
each_worked plan (life ∷ lives) (w ∷ all) are = (are.0, each_worked plan lives all are.1)

pub run_of : (plan : ClusterPlan) (lives : List LifeView) (outcomes : List (Result Worked LockFault))
    (run : ClusterRun) → AreOutcomesOf (map (task_of plan) lives) outcomes
    → (all : List Worked) × (outcomes ≡ map Ok all) × IsPutTogether all run
    → IsRunOf plan lives run
run_of plan lives outcomes run are made = record {
  all = made.0;
  worked = each_worked plan lives made.0
      (subst (AreOutcomesOf (map (task_of plan) lives)) made.1 are);
  together = made.2;
}

-- ---- why there is none

pub refuses : (fault : LockFault) → EndsRun fault → RefusesGathering (of_node fault)
refuses fault ends =
    ⊎_elim (λ is. subst (λ (f : LockFault). RefusesGathering (of_node f)) (sym is) tt)
    (λ is. subst (λ (f : LockFault). RefusesGathering (of_node f)) (sym is) refl)
    ends

one_ends : (plan : ClusterPlan) (life : LifeView) (outcome : Result Worked LockFault)
    → IsOutcomeOf plan life outcome → IfErr outcome EndsRun
one_ends plan life (Ok w) is = tt
one_ends plan life (Err fault) is = is

-- an outcome that is refused ends the run
pub ends_run : (tasks : List TaskView) (outcomes : List (Result Worked LockFault))
    → AreOutcomesOf tasks outcomes → All (λ o. IfErr o EndsRun) outcomes
ends_run [] [] all = All-nil (λ (o : Result Worked LockFault). IfErr o EndsRun)
ends_run [] (o ∷ more) all = absurd all
ends_run (task ∷ tasks) [] all = absurd all
ends_run (task ∷ tasks) (o ∷ more) all =
    All-cons (λ (r : Result Worked LockFault). IfErr r EndsRun) o more (one_ends task.plan task.life o all.0) (ends_run tasks more all.1)

-- ---- the jobs of a run

jobs_each : {D : Type 0} (content : D → List ℕ) (inboxes : List InboxView) (jobs : List (Job D))
    → All (λ (s : ServedFile D). IsServed content s.file s.table) (map (λ (job : Job D). job.served) jobs)
    → All (ArePassesOf inboxes) (map (λ (job : Job D). job.passes) jobs)
    → All (λ (job : Job D). IsJob content inboxes job.served.file job.served.table job.passes) jobs
jobs_each {D} content inboxes [] each linked =
    All-nil (λ (job : Job D). IsJob content inboxes job.served.file job.served.table job.passes)
jobs_each {D} content inboxes (job ∷ jobs) each linked =
    All-cons (λ (j : Job D). IsJob content inboxes j.served.file j.served.table j.passes) job jobs
    (record {
      served = All-head (λ (s : ServedFile D). IsServed content s.file s.table) job.served
          (map (λ (j : Job D). j.served) jobs) each;
      connected = All-head (ArePassesOf inboxes) job.passes (map (λ (j : Job D). j.passes) jobs) linked;
    })
    (jobs_each content inboxes jobs
    (All-tail (λ (s : ServedFile D). IsServed content s.file s.table) job.served (map (λ (j : Job D). j.served) jobs) each)
    (All-tail (ArePassesOf inboxes) job.passes (map (λ (j : Job D). j.passes) jobs) linked))

-- each job is made of a file that is served, and of passes
pub all_jobs : {D : Type 0} (content : D → List ℕ) (inboxes : List InboxView) (jobs : List (Job D))
    (served : List (ServedFile D)) (passes : List Passes) → map (λ (job : Job D). job.served) jobs ≡ served
    → map (λ (job : Job D). job.passes) jobs ≡ passes
    → All (λ (s : ServedFile D). IsServed content s.file s.table) served
    → All (ArePassesOf inboxes) passes
    → All (λ (job : Job D). IsJob content inboxes job.served.file job.served.table job.passes) jobs
all_jobs {D} content inboxes jobs served passes same also each linked =
    jobs_each content inboxes jobs
    (subst (All (λ (s : ServedFile D). IsServed content s.file s.table)) (sym same) each)
    (subst (All (ArePassesOf inboxes)) (sym also) linked)

tasks_each : {D : Type 0} (plan : ClusterPlan) (jobs : List (Job D))
    → map (λ (job : Job D). task_of plan (life_of_file job.served.file job.served.table)) jobs
    ≡ map (task_of plan) (map (λ (s : ServedFile D). life_of_file s.file s.table) (map (λ (job : Job D). job.served) jobs))
tasks_each plan [] = refl
tasks_each plan (job ∷ jobs) =
    ap (λ l. task_of plan (life_of_file job.served.file job.served.table) ∷ l) (tasks_each plan jobs)

-- their tasks are those of the lives in these files
pub tasks_of : {D : Type 0} (plan : ClusterPlan) (jobs : List (Job D)) (served : List (ServedFile D))
    (lives : List LifeView) → map (λ (job : Job D). job.served) jobs ≡ served
    → map (λ (s : ServedFile D). life_of_file s.file s.table) served ≡ lives
    → map (λ (job : Job D). task_of plan (life_of_file job.served.file job.served.table)) jobs
    ≡ map (task_of plan) lives
tasks_of {D} plan jobs served lives same are =
    tasks_each plan jobs
    ∙ ap (map (task_of plan)) (ap (map (λ (s : ServedFile D). life_of_file s.file s.table)) same ∙ are)

pub lives_count : (node : ℕ) (contents : List (List ℕ))
    → length (lives_from node contents) ≡ length contents
lives_count node [] = refl
lives_count node (bytes ∷ later) = omega (arith, lives_count (node + 1) later)

-- ---- the run itself

pub ok_more : {T E : Type 0} (P Q : T → Type 0) (r : Result T E) → ((x : T) → P x → Q x)
    → IfOk r P → IfOk r Q
ok_more P Q (Ok x) more is = more x is
ok_more P Q (Err e) more is = tt

-- what follows on Ok from what holds there
pub then_on_ok : {A E P Q : Type 0} (result : Result A E) → (P → Q) → OnOk result P → OnOk result Q
then_on_ok (Ok done) more holds = more holds
then_on_ok (Err fault) more holds = tt

pub err_more : {T E : Type 0} (P Q : E → Type 0) (r : Result T E) → ((e : E) → P e → Q e)
    → IfErr r P → IfErr r Q
err_more P Q (Ok x) more is = tt
err_more P Q (Err e) more is = more e is

pub on_ok : {T E : Type 0} (P : Type 0) (r : Result T E) → P → OnOk r P
on_ok P (Ok x) is = is
on_ok P (Err e) is = tt

pub refuses_working : {D : Type 0} (content : D → List ℕ) (failed : D → ℕ) (plan : ClusterPlan)
    (limits : Limits) (devices : List D) (fault : ClusterFault) → CanRun content plan limits devices
    → (fault ≡ Memory) ⊎ (fault ≡ NoThread) → RefusesRun content failed plan limits devices fault
refuses_working content failed plan limits devices fault can why =
    ⊎_elim (λ is. subst (RefusesRun content failed plan limits devices) (sym is) can.none)
    (λ is. subst (RefusesRun content failed plan limits devices) (sym is) can)
    why

pub refuses_gathering : {D : Type 0} (content : D → List ℕ) (failed : D → ℕ) (plan : ClusterPlan)
    (limits : Limits) (devices : List D) (fault : ClusterFault) → CanRun content plan limits devices
    → RefusesGathering fault → RefusesRun content failed plan limits devices fault
refuses_gathering content failed plan limits devices (Node fault) can why = (can, why)
refuses_gathering content failed plan limits devices Memory can why = can.none
refuses_gathering content failed plan limits devices (File fault) can why = absurd why
refuses_gathering content failed plan limits devices NoSuchNode can why = absurd why
refuses_gathering content failed plan limits devices BadLimit can why = absurd why
refuses_gathering content failed plan limits devices NoThread can why = absurd why

none_each : (a b c d rest g : Bool) (fault another : ClusterFault)
    → first_that_applies ((a || b, fault) ∷ ((c || d) || (rest || not g), another) ∷ []) ≡ None
    → (a ≡ false) × ((b ≡ false) × ((c ≡ false) × ((d ≡ false) × (g ≡ true))))
none_each true b c d rest g fault another none = absurd (cc)
none_each false true c d rest g fault another none = absurd (cc)
none_each false false true d rest g fault another none = absurd (cc)
none_each false false false true rest g fault another none = absurd (cc)
none_each false false false false true g fault another none = absurd (cc)
none_each false false false false false false fault another none = absurd (cc)
none_each false false false false false true fault another none = (refl, (refl, (refl, (refl, refl))))

-- if a run isn't refused at once, so many nodes can have inboxes of this room
pub inboxes_within : (plan : ClusterPlan) (limits : Limits) (devices : ℕ)
    → refusal_of_run plan limits devices ≡ None
    → ((1 ≤ devices) × (devices ≤ 16)) × ((1 ≤ limits.inbox) × (limits.inbox ≤ 1024))
inboxes_within plan limits devices none =
    let all = none_each (nat_lt plan.nodes 1) (nat_lt 16 plan.nodes) (nat_lt limits.inbox 1) (nat_lt 1024 limits.inbox) _ (nat_eq devices plan.nodes) _ _ none in
    let first = ltb-false plan.nodes 1 all.0 in
    let last = ltb-false 16 plan.nodes all.1.0 in
    let same : devices ≡ plan.nodes = eqb-true devices plan.nodes all.1.1.1.1 in (
      (omega (arith, first, same), omega (arith, last, same)),
      (ltb-false limits.inbox 1 all.1.1.0, ltb-false 1024 limits.inbox all.1.1.1.0),
    )
