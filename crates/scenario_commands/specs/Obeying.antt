-- What a command prints and what it leaves: a relation between the stage before it, the text, and
-- the stage after it. That memory runs out is no outcome here; it ends the run.
use Rattle.std.specs.Prelude.{◌≡◌, ◌≢◌, ℕ, zero, suc, ◌+◌, ◌-◌, ◌≤◌, ◌<◌, nat_le, Bool, true, false, not, ◌⊎◌, if◌then◌else◌, List, [], ◌∷◌, ◌++◌, length, map, replicate, slice_get, slice_set, Option, Some, None, Result, Ok, Err, codes, decimal}
use Rattle.std.specs.Option.{unwrap_or}
use Rattle.meta_types.specs.Name.{Key}
use Rattle.meta_types.specs.Value.{ValueParts}
use Rattle.meta_types.specs.declared.fault.TypeFault.{TypeFault}
use Rattle.dvvset.specs.Clock.{values_of}
use Rattle.meta_store.specs.Table.{object_at}
use Rattle.node_core.specs.Repair.{chosen}
use Rattle.node_events.specs.declared.event.NodeEvent.TheVariants as nodes
use Rattle.node_events.specs.declared.fault.StepFault.TheVariants as OfStep
use Rattle.world_core.specs.declared.answer.Answer.{Answer}
use Rattle.world_core.specs.declared.event.Event.{Event}
use Rattle.world_core.specs.declared.event.Event.TheVariants as events
use Rattle.world_core.specs.declared.fault.WorldFault.{WorldFault}
use Rattle.world_core.specs.declared.fault.WorldFault.TheVariants.{NoSuchFrame, NoSuchNode, Memory, Step}
use Rattle.world_core.specs.Outcome.{Outcome}
use Rattle.world_core.specs.Refusal.{table_at}
use Rattle.world_core.specs.World.{World, new_world}
use Rattle.scenario_text.specs.Commands.{Command, Keep, Resolve, Settle, fault_in}
use Rattle.scenario_commands.specs.Meaning.{Report, addressee, result_text, event_of, report_of}
use Rattle.scenario_commands.specs.Fault.{most_deliveries}
use Rattle.scenario_commands.specs.Printed.{AreLinesOf, line, name_refused, world_refused}
use Rattle.scenario_commands.specs.declared.fault.StageFault.{StageFault}
use Rattle.scenario_commands.specs.declared.fault.StageFault.TheVariants as stages

-- a world, and which of its frames, in the order of their numbers, were given to their addressee
pub record Stage : Type 0 where
  pub world : World
  pub given : List Bool

-- a new world of this number of nodes, none of whose frames was given
abbrev pub new_stage : ℕ → Stage
new_stage nodes = record { world = new_world nodes; given = [] }

-- what each resolver chooses of siblings, in the order in which the resolvers were handed in
abbrev pub Choices : Type 0
Choices = List (List ValueParts → ℕ)

-- ---- an event

abbrev pub outcome_line : Result Answer WorldFault → List ℕ
outcome_line (Ok answer) = line (result_text answer)
outcome_line (Err fault) = world_refused fault

-- what was sent, and is in this world: a line for each frame; a refused event sends none
abbrev pub AreSent : World → Result Answer WorldFault → List ℕ → Type 0
AreSent w (Ok answer) text = AreLinesOf w answer.sent text
AreSent w (Err fault) text = text ≡ []

-- 44, 42 and 40: after these the frame is as it was, given or not
abbrev pub changes_no_mark : WorldFault → Bool
changes_no_mark NoSuchNode = true
changes_no_mark NoSuchFrame = true
changes_no_mark (Step OfStep.NotAddressed) = true
changes_no_mark fault = false

-- the marks of this number of frames; a new frame was not given
abbrev pub with_new : ℕ → List Bool → List Bool
with_new frames given = given ++ replicate (frames - length given) false

-- the frame of that number was given
abbrev pub with_given : ℕ → List Bool → List Bool
with_given frame given = slice_set given (frame - 1) true

-- whether the frame of that number was given; false if there is none
abbrev pub was_given : ℕ → List Bool → Bool
was_given zero given = false
was_given (suc place) given = unwrap_or (slice_get given place) false

-- a frame that was delivered with this outcome was given
abbrev pub counts_as_given : Result Answer WorldFault → Bool
counts_as_given (Ok answer) = true
counts_as_given (Err fault) = not (changes_no_mark fault)

-- which frames are given after an event with this outcome
abbrev pub given_by : Event → Result Answer WorldFault → List Bool → List Bool
given_by (events.Deliver frame n word) outcome given =
    if counts_as_given outcome then with_given frame given else given
given_by event outcome given = given

-- an event has this outcome, and the marks follow
pub record Comes (old : Stage) (event : Event) (outcome : Result Answer WorldFault) (new : Stage)
    : Type 0 where
  pub outcome_is : Outcome old.world event outcome new.world
  pub had_memory : outcome ≢ Err Memory
  pub given : new.given ≡ with_new (length new.world.frames) (given_by event outcome old.given)

-- an event has an outcome, which is printed, and what it sent
pub record Happens (old : Stage) (event : Event) (text : List ℕ) (new : Stage) : Type 0 where
  pub outcome : Result Answer WorldFault
  pub comes : Comes old event outcome new
  pub sent : List ℕ
  pub sent_is : AreSent new.world outcome sent
  pub text_is : text ≡ outcome_line outcome ++ sent

-- ---- looking, keeping and resolving

-- nothing changes; the answer is printed if the world has the node
abbrev pub Answers : Stage → ℕ → List ℕ → (text : List ℕ) → Stage → Type 0
Answers old node answer text new = (text ≡
    (if nat_le (length old.world.nodes) node then world_refused NoSuchNode else line answer))
    × (new ≡ old)

abbrev pub Looks : Stage → Report → (text : List ℕ) → Stage → Type 0
Looks old look text new = Answers old look.node look.text text new

-- the world doesn't have the node, and nothing changes
abbrev pub IsNoNode : Stage → ℕ → (text : List ℕ) → Stage → Type 0
IsNoNode old node text new = (length old.world.nodes ≤ node)
    × (text ≡ world_refused NoSuchNode) × (new ≡ old)

-- the world keeps what the node holds under these keys, each in a new image
abbrev pub KeepsAll : Stage → ℕ → List Key → Stage → Type 0
KeepsAll old node [] new = new ≡ old
KeepsAll old node (key ∷ keys) new = (answer : Answer) × (between : Stage)
    × Comes old (events.Step node (nodes.Keep key)) (Ok answer) between
    × KeepsAll between node keys new

-- the world keeps all that the node holds
pub record KeepsHeld (old : Stage) (node : ℕ) (text : List ℕ) (new : Stage) : Type 0 where
  pub there : node < length old.world.nodes
  pub keeps : KeepsAll old node (map (λ row. row.0) (table_at old.world node)) new
  pub text_is : text ≡ line (codes "ok")

-- the sibling that is chosen, if there are two or more, and a resolver
abbrev pub chosen_as : Option (List ValueParts → ℕ) → List ValueParts → Option ValueParts
chosen_as None siblings = None
chosen_as (Some choice) siblings = chosen choice siblings

-- the sibling that the resolver at this place chooses
abbrev pub chosen_by : Choices → ℕ → List ValueParts → Option ValueParts
chosen_by choices by siblings = chosen_as (slice_get choices by) siblings

-- the chosen sibling is written over all of them; if there is none nothing changes
abbrev pub Resolves : Stage → ℕ → Key → Option ValueParts → (text : List ℕ) → Stage → Type 0
Resolves old node key None text new = Answers old node (codes "ok") text new
Resolves old node key (Some value) text new =
    Happens old (events.Step node (nodes.PutOver key value)) text new

-- ---- settling

-- the first frame that was not given, by its number
abbrev pub first_waiting : ℕ → List Bool → Option ℕ
first_waiting number [] = None
first_waiting number (true ∷ given) = first_waiting (number + 1) given
first_waiting number (false ∷ given) = Some number

abbrev pub waiting : Stage → Option ℕ
waiting s = first_waiting 1 s.given

-- a frame is delivered to its addressee, with word 0; then it counts as given, whatever the outcome
-- is: 44, 42 and 40 can't come, since the frame and its addressee are there
pub record HandsOn (old : Stage) (frame : ℕ) (new : Stage) : Type 0 where
  pub outcome : Result Answer WorldFault
  pub between : Stage
  pub comes : Comes old (events.Deliver frame (addressee old.world frame) 0) outcome between
  pub new_is : new ≡ record between { given = with_given frame between.given }

-- this number of frames is handed on, one after the other, each the first that then waits,
-- including those that are sent by this (one word, into which proofs do not look by themselves)
unfoldable pub HandsOnEach : Stage → ℕ → Stage → Type 0
HandsOnEach old zero new = new ≡ old
HandsOnEach old (suc more) new = (frame : ℕ) × (between : Stage) × (waiting old ≡ Some frame)
    × HandsOn old frame between × HandsOnEach between more new

-- frames are handed on until none waits, and no more than may be
pub record Settles (old : Stage) (text : List ℕ) (new : Stage) : Type 0 where
  pub delivered : ℕ
  pub within : delivered ≤ most_deliveries
  pub hands_on : HandsOnEach old delivered new
  pub none_waits : waiting new ≡ None
  pub text_is : text ≡ line (codes "delivered " ++ decimal delivered)

-- the greatest number of frames that may be handed on is handed on, and one still waits
pub record GoesOn (old : Stage) : Type 0 where
  pub delivered : ℕ
  pub most : delivered ≡ most_deliveries
  pub between : Stage
  pub hands_on : HandsOnEach old delivered between
  pub frame : ℕ
  pub waits : waiting between ≡ Some frame

-- ---- a command

-- a command that is an event, or only looks; one that is neither, such as `nodes`, which stands
-- only in front, does nothing
abbrev pub ActsOrLooks : Stage → Option Event → Option Report → (text : List ℕ) → Stage → Type 0
ActsOrLooks old (Some event) look text new = Happens old event text new
ActsOrLooks old None (Some look) text new = Looks old look text new
ActsOrLooks old None None text new = (text ≡ []) × (new ≡ old)

abbrev pub Acts : Choices → Stage → Command → (text : List ℕ) → Stage → Type 0
Acts choices old (Keep node None) text new = KeepsHeld old node text new ⊎ IsNoNode old node text new
Acts choices old (Resolve node key by) text new = Resolves old node key
    (chosen_by choices by (values_of (object_at (table_at old.world node) key))) text new
Acts choices old Settle text new = Settles old text new
Acts choices old command text new =
    ActsOrLooks old (event_of old.world command) (report_of old.world command) text new

-- a name or a value is too long, or the command is done
abbrev pub ActsUnless : Option TypeFault → Choices → Stage → Command → (text : List ℕ) → Stage
    → Type 0
ActsUnless (Some fault) choices old command text new = (text ≡ name_refused fault) × (new ≡ old)
ActsUnless None choices old command text new = Acts choices old command text new

-- the command prints this text, and leaves this stage
abbrev pub Obeys : Choices → Stage → Command → (text : List ℕ) → Stage → Type 0
Obeys choices old command text new = ActsUnless (fault_in command) choices old command text new

-- the command is a settling that would go on after the most deliveries
abbrev pub PassesLimit : Stage → Command → Type 0
PassesLimit old Settle = GoesOn old
PassesLimit old command = ⊥

-- a command was obeyed, and the text that it prints was added after what stood there; or it passes
-- the limit, or memory ran out, and then nothing is said of text and stage
abbrev pub ObeysOrEnds : Choices → Stage → Command → (text_old text_new : List ℕ) → Stage
    → Result Unit StageFault → Type 0
ObeysOrEnds choices old command text_old text_new new (Ok done) = (added : List ℕ)
    × Obeys choices old command added new × (text_new ≡ text_old ++ added)
ObeysOrEnds choices old command text_old text_new new (Err stages.Limit) = PassesLimit old command
ObeysOrEnds choices old command text_old text_new new (Err stages.Memory) = Unit {0}
