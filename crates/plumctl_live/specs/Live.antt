-- What is printed of a cluster of threads, and the exit status.
--
-- The statuses: 0 what the threads did is a run of the world, 1 it isn't, or that can't be said, or
-- the cluster gives no run, 3 a device failed before the run, or the writer failed, 4 memory ran
-- out; where several apply, the greatest of them. Wrong arguments, with status 2, start nothing.
use Rattle.std.specs.Prelude.{◌≡◌, ◌⊎◌, ℕ, max, nat_eq, if◌then◌else◌, List, [], ◌∷◌, ◌++◌, length, map, All, Option, Some, None, Result, Ok, Err, IfOk, IfErr, OnOk, codes, decimal}
use Rattle.node_journal.specs.Closed.{AreWhole}
use Rattle.run_record.specs.Fault as records
use Rattle.run_record.specs.declared.fault.RecordFault.TheVariants as record_faults
use Rattle.run_record.specs.Record.{HoldsJournals, HoldsTables, IsKept, IsOfARun, Refuses, ShowWhatIsKnown}
use Rattle.world_core.specs.World.{World}
use Rattle.scenario_commands.specs.Printed.{line}
use Rattle.cluster_worker.specs.Fault as clusters
use Rattle.cluster_worker.specs.Plan.{largest, refusal_of_run}
use Rattle.cluster_worker.specs.Serving.{LifeView, first_lives, lives_from}
use Rattle.cluster_worker.specs.declared.plan.ClusterPlan.{ClusterPlan}
use Rattle.cluster.specs.Run.{CanRun, IsRunOf, RefusesNewRun, RefusesRun}
use Rattle.cluster.specs.declared.run.ClusterRun.{ClusterRun}
use Rattle.cluster_worker.specs.declared.fault.ClusterFault.{ClusterFault}
use Rattle.streams.specs.declared.fault.StreamFault.{StreamFault}
use Rattle.streams.specs.Moment.{SinkAt}
use Rattle.plumctl_core.specs.Opening.{TellsText}
use Rattle.plumctl_core.specs.Status.{TellsFault, status_of_fault}
use Rattle.plumctl_file.specs.Ends.{EndsWithMemory, Outputs}
use Rattle.plumctl_file.specs.Reported.{WritesFront, WritesOut}
use Rattle.plumctl_live.specs.declared.counts.Counts.{Counts}
use Rattle.plumctl_live.specs.declared.judged.LiveFault.{LiveFault}
use Rattle.plumctl_live.specs.declared.judged.LiveFault.TheVariants.{Cluster, NotWhole, Record}
use Rattle.plumctl_live.specs.declared.run.LiveRun.{LiveRun}

-- ---- what is run

-- what a run on new devices in memory came to: all nodes are in their first lives
pub record IsNewRun (plan : ClusterPlan) (run : Result ClusterRun ClusterFault) : Type 0 where
  pub ran : IfOk run (IsRunOf plan (first_lives plan.nodes))
  pub accepted : OnOk run (refusal_of_run plan largest plan.nodes ≡ None)
  pub refused : IfErr run (RefusesNewRun plan)

-- what a run on these devices came to
pub record IsRunOn {D : Type 0} (content : D → List ℕ) (failed : D → ℕ) (plan : ClusterPlan)
    (devices : List D) (run : Result ClusterRun ClusterFault) : Type 0 where
  pub ran : IfOk run (IsRunOf plan (lives_from 0 (map content devices)))
  pub accepted : OnOk run (CanRun content plan largest devices)
  pub refused : IfErr run (RefusesRun content failed plan largest devices)

-- ---- what is judged

-- the world is the run that the threads made, by all their journals and receipts
pub record IsJudged (run : ClusterRun) (w : World) : Type 0 where
  pub whole : AreWhole run.closed.items
  pub ran : IsOfARun (length run.closed.items) w
  pub journals : HoldsJournals run.closed.items w
  pub tables : HoldsTables run.closed.items w
  pub shows : ShowWhatIsKnown run.closed.items w
  pub receipts : All (IsKept run.closed.items) run.receipts.items

-- a journal isn't whole; or all are, and they and the receipts are no run, for this cause
abbrev pub RefusesJudging : ClusterRun → LiveFault → Type 0
RefusesJudging run NotWhole = AreWhole run.closed.items → ⊥
RefusesJudging run (Record fault) =
    AreWhole run.closed.items × Refuses run.closed.items run.receipts.items fault
RefusesJudging run (Cluster fault) = ⊥

-- what threads left is never refused with 62: their locks left journals that are runs
abbrev pub NoRunIsUnequal : Type 0
NoRunIsUnequal = (plan : ClusterPlan) (lives : List LifeView) (run : ClusterRun) (n : ℕ)
    → IsRunOf plan lives run → RefusesJudging run (Record (record_faults.Unequal n)) → ⊥

-- what a run came to: it was judged, or there is none
abbrev pub Judges : Result ClusterRun ClusterFault → Result World LiveFault → Type 0
Judges (Ok run) (Ok w) = IsJudged run w
Judges (Ok run) (Err fault) = RefusesJudging run fault
Judges (Err fault) judged = judged ≡ Err (Cluster fault)

-- ---- numbers and names

abbrev pub code_of : LiveFault → Option ℕ
code_of (Cluster fault) = Some (clusters.code_of fault)
code_of (Record fault) = Some (records.code_of fault)
code_of NotWhole = None

abbrev pub fault_name : LiveFault → List ℕ
fault_name (Cluster fault) = clusters.fault_name fault
fault_name (Record fault) = records.fault_name fault
fault_name NotWhole = codes "NotWhole"

-- ---- what is printed

abbrev pub plan_line : ClusterPlan → List ℕ
plan_line plan = line (codes "live nodes " ++ decimal plan.nodes
    ++ codes " turns " ++ decimal plan.turns)

abbrev pub counts_in : ClusterRun → Counts
counts_in run = record {
  calls = run.calls;
  lost = run.lost;
  stopped = length run.stopped.items;
}

-- where there is a run
abbrev pub counts_of : Result ClusterRun ClusterFault → Option Counts
counts_of (Ok run) = Some (counts_in run)
counts_of (Err fault) = None

-- calls and lost frames
abbrev pub calls_line : Option Counts → List ℕ
calls_line None = []
calls_line (Some counts) = line (codes "calls " ++ decimal counts.calls
    ++ codes " lost " ++ decimal counts.lost)

abbrev pub fault_line : ℕ → List ℕ → List ℕ
fault_line code name = line (codes "fault " ++ decimal code ++ codes " " ++ name)

-- 99, and what has no number, is reported at standard error alone
abbrev pub line_of_number : Option ℕ → List ℕ → List ℕ
line_of_number None name = []
line_of_number (Some code) name = if nat_eq code 99 then [] else fault_line code name

abbrev pub verdict_line : Result World LiveFault → List ℕ
verdict_line (Ok w) = line (codes "assembled")
verdict_line (Err fault) = line_of_number (code_of fault) (fault_name fault)

unfoldable pub live_text : ClusterPlan → Option Counts → Result World LiveFault → List ℕ
live_text plan counts judged = plan_line plan ++ (calls_line counts ++ verdict_line judged)

-- ---- how it ends

abbrev pub status_of_number : Option ℕ → ℕ
status_of_number None = 1
status_of_number (Some code) = if nat_eq code 99 then 4 else if nat_eq code 30 then 3 else 1

-- the exit status of what was judged
abbrev pub status_of_verdict : Result World LiveFault → ℕ
status_of_verdict (Ok w) = 0
status_of_verdict (Err fault) = status_of_number (code_of fault)

abbrev pub told_of_number : Option ℕ → List ℕ
told_of_number None =
    line (codes "error: a journal isn't whole, so nobody can say whether this is a run")
told_of_number (Some code) = if nat_eq code 99 then line (codes "error 99 Memory") else []

abbrev pub told_of_fault : LiveFault → List ℕ
told_of_fault fault = told_of_number (code_of fault)

-- where nodes stopped
abbrev pub note_of_stopped : Option Counts → List ℕ
note_of_stopped None = []
note_of_stopped (Some counts) = if nat_eq counts.stopped 0 then []
    else line (codes "note: a device failed, and its node made no more turns")

-- what is printed at standard error about what became of a run
abbrev pub told_after : Option Counts → Result World LiveFault → List ℕ
told_after counts (Ok w) = note_of_stopped counts
told_after counts (Err fault) = told_of_fault fault

-- beside any verdict but 60 to 63 there are no words; of what they say nothing is said
abbrev pub MaySayWhy : Result World LiveFault → (words : List ℕ) → Type 0
MaySayWhy (Err (Record record_faults.Memory)) words = words ≡ []
MaySayWhy (Err (Record fault)) words = Unit {0}
MaySayWhy judged words = words ≡ []

-- the words, if there are any; otherwise the line
abbrev pub words_or_line : (words told : List ℕ) → List ℕ
words_or_line [] told = told
words_or_line (byte ∷ words) told = byte ∷ words

-- the text was printed, and at standard error why there is no run, or what the text doesn't say
pub record PrintsLive (plan : ClusterPlan) (counts : Option Counts)
    (judged : Result World LiveFault) (words : List ℕ) (old new : Outputs) (status : ℕ)
    : Type 0 where
  pub status_is : status ≡ status_of_verdict judged
  pub prints : WritesOut old.writer new.writer (live_text plan counts judged)
  pub told : TellsText old.errors new.errors (words_or_line words (told_after counts judged))

-- a fault of the writer is printed at standard error where no fault of the run is; the note and the
-- words aren't printed then
abbrev pub TellsUnless : List ℕ → StreamFault → (old new : SinkAt) → Type 0
TellsUnless [] fault old new = TellsFault old new fault
TellsUnless (byte ∷ bytes) fault old new = TellsText old new (byte ∷ bytes)

abbrev pub TellsStop : Result World LiveFault → StreamFault → (old new : SinkAt) → Type 0
TellsStop (Ok w) fault old new = TellsFault old new fault
TellsStop (Err by_run) fault old new = TellsUnless (told_of_fault by_run) fault old new

-- or the writer failed after a front of it, which was reported unless a fault of the run was
pub record StopsLive (plan : ClusterPlan) (counts : Option Counts)
    (judged : Result World LiveFault) (old new : Outputs) (status : ℕ) : Type 0 where
  pub fault : StreamFault
  pub status_is : status ≡ max (status_of_verdict judged) (status_of_fault fault)
  pub stops : WritesFront old.writer new.writer (live_text plan counts judged) fault
  pub told : TellsStop judged fault old.errors new.errors

-- what was judged was printed, as far as the writer takes it; or memory ran out, and nothing was
-- printed
abbrev pub EndsLive : ClusterPlan → Option Counts → Result World LiveFault → (words : List ℕ)
    → (old new : Outputs) → ℕ → Type 0
EndsLive plan counts judged words old new status =
    PrintsLive plan counts judged words old new status
    ⊎ (StopsLive plan counts judged old new status ⊎ EndsWithMemory old new status)

-- a run that came about so was judged and reported
pub record IsJudgedAndTold (Came : Result ClusterRun ClusterFault → Type 0) (plan : ClusterPlan)
    (old new : Outputs) (live : LiveRun) : Type 0 where
  pub run : Result ClusterRun ClusterFault
  pub came : Came run
  pub counts : live.counts ≡ counts_of run
  pub judges : Judges run live.judged
  pub words : List ℕ
  pub why : MaySayWhy live.judged words
  pub ends : EndsLive plan live.counts live.judged words old new live.status
