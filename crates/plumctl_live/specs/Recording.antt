-- A run that was judged, as a scenario that makes it again, and how it is written down.
use Rattle.std.specs.Prelude.{◌≡◌, ◌⊎◌, ℕ, nat_lt, if◌then◌else◌, List, [], ◌++◌, length, map, Option, Some, None, codes, decimal}
use Rattle.devices.specs.Device.{HasFailed, IsDurable, Overwrites}
use Rattle.devices.specs.declared.opening.OpenFault.{OpenFault}
use Rattle.devices.specs.declared.opening.OpenFault.TheVariants as opening
use Rattle.streams.specs.Line.{input_limit}
use Rattle.streams.specs.Moment.{SinkAt}
use Rattle.streams.specs.declared.fault.StreamFault.TheVariants as streams
use Rattle.world_core.specs.World.{World}
use Rattle.run_record.specs.Record.{event_of}
use Rattle.run_text.specs.Replay.{HasReplay, Replays, scenario_of_run}
use Rattle.cluster_worker.specs.declared.plan.ClusterPlan.{ClusterPlan}
use Rattle.cluster_worker.specs.declared.plan.Workload.{Workload}
use Rattle.cluster_worker.specs.declared.plan.Workload.TheVariants.{Fixed, Mixed}
use Rattle.scenario_text.specs.Commands.{Command}
use Rattle.scenario_text.specs.Script.{commands_of, scenario_of}
use Rattle.scenario_text.specs.Spelling.{spelled_scenario}
use Rattle.scenario_commands.specs.Obeying.{Choices, Stage, new_stage}
use Rattle.scenario_commands.specs.Printed.{line}
use Rattle.scenario.specs.Output.{IsOutput, ObeyAll, plain}
use Rattle.scenario.specs.declared.fault.ScenarioFault.{ScenarioFault}
use Rattle.scenario_text.specs.Hint.{shown_byte}
use Rattle.plumctl_core.specs.Opening.{TellsText, cause_line}
use Rattle.plumctl_core.specs.Status.{TellsFault}
use Rattle.plumctl_file.specs.Ends.{cause_of_unmade, write_failed}

-- ---- the scenario

-- the whole output of the text is what obeying its commands prints, in a world of this number of
-- new nodes, and this is the world that they lead to: with these events, replies and frames
pub record MakesAgain (choices : Choices) (nodes : ℕ) (w : World) (text output : List ℕ)
    (ended : Option ScenarioFault) : Type 0 where
  pub whole : ended ≡ None
  pub commands : List Command
  pub scenario : scenario_of (commands_of (length choices) text)
      ≡ Some (record { nodes = nodes; commands = commands })
  pub printed : List ℕ
  pub stage : Stage
  pub obeyed : ObeyAll (plain choices) (new_stage nodes) commands printed stage
  pub world : stage.world ≡ w
  pub output_is : output ≡ line (codes "ok") ++ printed

-- the option for this workload
abbrev pub option_of : Workload → List ℕ
option_of Fixed = []
option_of Mixed = codes " --mixed"

-- what is said about the recording of a run of this plan
abbrev pub about : ClusterPlan → List ℕ
about plan = codes "what the threads of 'plumctl live " ++ (decimal plan.nodes ++ (codes " "
    ++ (decimal plan.turns ++ (codes " " ++ (decimal plan.seed ++ (option_of plan.workload
    ++ codes "' did, call by call; at last the root of each node"))))))

-- a run of this plan has a recording: each of its events has a spelling
abbrev pub HasRecording : ClusterPlan → World → Type 0
HasRecording plan w = HasReplay (about plan) plan.nodes (map event_of w.accepted)

-- the text is what is said about the run, and the commands of its events, byte for byte (one word,
-- into which proofs do not look by themselves)
unfoldable pub SpellsRun : ClusterPlan → World → List ℕ → Type 0
SpellsRun plan w text = text
    ≡ spelled_scenario (about plan) (scenario_of_run plan.nodes (map event_of w.accepted))

-- the text is written so, and asks for the events of the world, one after the other, and then for
-- the root of each node; and a run of it to its end, with two resolvers at hand, makes the same
-- world again
pub record IsRecording (plan : ClusterPlan) (w : World) (text : List ℕ) : Type 0 where
  pub spells : SpellsRun plan w text
  pub replays : Replays 2 plan.nodes (map event_of w.accepted) text
  pub makes : (choices : Choices) (output : List ℕ) (ended : Option ScenarioFault)
      → length choices ≡ 2 → IsOutput (plain choices) text output ended
      → MakesAgain choices plan.nodes w text output ended

-- ---- where it is written

-- the text stands at the front of what the device held, and every crash leaves it there
pub record IsStored {D : Type 0} (content : D → List ℕ) (may_leave : D → List ℕ → Type 0)
    (text : List ℕ) (old new : D) : Type 0 where
  pub written : Overwrites (content old) 0 text (content new)
  pub durable : IsDurable (content new) (may_leave new)

-- the note about a recording that is longer than what is run
abbrev pub note_of : (path : List ℕ) → ℕ → List ℕ
note_of path len = if nat_lt input_limit len
    then codes "note: " ++ (map shown_byte path
    ++ line (codes " is longer than 67108864 bytes, so 'plumctl run' refuses it"))
    else []

pub record WritesRecording {D : Type 0} (content : D → List ℕ) (may_leave : D → List ℕ → Type 0)
    (path : List ℕ) (plan : ClusterPlan) (w : World) (old new : D)
    (errors_old errors_new : SinkAt) (status : ℕ) : Type 0 where
  pub status_is : status ≡ 0
  pub text : List ℕ
  pub recording : IsRecording plan w text
  pub stored : IsStored content may_leave text old new
  pub told : TellsText errors_old errors_new (note_of path (length text))

-- ---- a device that failed

-- that it failed, and the path of this name with the cause
abbrev pub device_text : (name cause : List ℕ) → List ℕ
device_text name cause = line (codes "error 30 Device") ++ cause_line name cause

-- that was printed at standard error
abbrev pub TellsDevice : (name cause : List ℕ) → (errors_old errors_new : SinkAt) → ℕ → Type 0
TellsDevice name cause errors_old errors_new status =
    (status ≡ 3) × TellsText errors_old errors_new (device_text name cause)

-- the run has no recording, and that was printed
pub record TellsNoText (plan : ClusterPlan) (w : World) (errors_old errors_new : SinkAt)
    (status : ℕ) : Type 0 where
  pub none : HasRecording plan w → ⊥
  pub status_is : status ≡ 1
  pub told : TellsText errors_old errors_new (line (codes "error: the run has no text"))

-- the device at this path failed; memory ran out; or the run has no recording
abbrev pub FailsRecording : {D : Type 0} → (D → ℕ) → (path : List ℕ) → ClusterPlan → World
    → (old new : D) → (errors_old errors_new : SinkAt) → ℕ → Type 0
FailsRecording failed path plan w old new errors_old errors_new status =
    (HasFailed (failed old) (failed new)
    × TellsDevice path write_failed errors_old errors_new status)
    ⊎ (((status ≡ 4) × TellsFault errors_old errors_new streams.Memory)
    ⊎ TellsNoText plan w errors_old errors_new status)

abbrev pub EndsRecording : {D : Type 0} → (D → List ℕ) → (D → List ℕ → Type 0) → (D → ℕ)
    → (path : List ℕ) → ClusterPlan → World → (old new : D)
    → (errors_old errors_new : SinkAt) → ℕ → Type 0
EndsRecording content may_leave failed path plan w old new errors_old errors_new status =
    WritesRecording content may_leave path plan w old new errors_old errors_new status
    ⊎ FailsRecording failed path plan w old new errors_old errors_new status

-- ---- where nothing could be made

-- how it ends where the file of a recording, or the folder with the nodes' files, couldn't be made
-- at this path
abbrev pub EndsUnmade : (path : List ℕ) → OpenFault → (errors_old errors_new : SinkAt) → ℕ
    → Type 0
EndsUnmade path opening.Memory errors_old errors_new status =
    (status ≡ 4) × TellsFault errors_old errors_new streams.Memory
EndsUnmade path fault errors_old errors_new status =
    TellsDevice path (cause_of_unmade fault) errors_old errors_new status
