-- A text that replays a run of the world.
use Rattle.std.specs.Prelude.{◌≡◌, ◌==◌, ℕ, if◌then◌else◌, List, [], ◌∷◌, ◌++◌, map, All, Option, Some, None}
use Rattle.std.specs.List.{filter_map, range_with_len}
use Rattle.meta_types.specs.Name.{Key}
use Rattle.node_events.specs.declared.event.NodeEvent.{NodeEvent}
use Rattle.node_events.specs.declared.event.NodeEvent.TheVariants as asked
use Rattle.world_core.specs.declared.event.Event.{Event}
use Rattle.world_core.specs.declared.event.Event.TheVariants as events
use Rattle.world_core.specs.World.{World}
use Rattle.streams.specs.Line.{IsOneLine}
use Rattle.scenario_text.specs.Commands.{Command, Nodes, Put, Del, Over, Read, Deliver, Junk, Tick, Join, Down, Exchange, Hello, Leave, Restart, Keep, Watch, Changes, Root, fault_in}
use Rattle.scenario_text.specs.Script.{Scenario, commands_of, first_bad, scenario_of}
use Rattle.scenario_text.specs.Spelling.{HasSpelling}
use Rattle.scenario_commands.specs.Meaning.{event_of}

-- ---- the command of an event

-- a write: of a value, or of a tombstone
abbrev pub write_command : ℕ → Key → (stamp : ℕ) → (body : Option (List ℕ)) → Option ℕ → Command
write_command n k stamp None read = Del n k stamp read
write_command n k stamp (Some bytes) read = Put n k bytes stamp read

-- a write over all that is shown is one of a value
abbrev pub over_command : ℕ → Key → (stamp : ℕ) → (body : Option (List ℕ)) → Option Command
over_command n k stamp None = None
over_command n k stamp (Some bytes) = Some (Over n k bytes stamp)

-- what a node is asked. No command says a context, or a word for bytes that should be no frame
abbrev pub step_command : ℕ → NodeEvent → Option Command
step_command n (asked.Read k) = Some (Read n k)
step_command n (asked.Write k v None) = Some (write_command n k v.stamp v.body None)
step_command n (asked.Write k v (Some context)) = None
step_command n (asked.PutOver k v) = over_command n k v.stamp v.body
step_command n (asked.Take bytes word) = if word == 0 then Some (Junk n bytes) else None
step_command n (asked.Tick word) = Some (Tick n word)
step_command n (asked.Join contact word) = Some (Join n contact word)
step_command n (asked.PeerDown peer word) = Some (Down n peer word)
step_command n (asked.Exchange peer) = Some (Exchange n peer)
step_command n (asked.Keep k) = Some (Keep n (Some k))
step_command n (asked.Watch p capacity) = Some (Watch n p capacity)
step_command n (asked.Changes number) = Some (Changes n number)
step_command n (asked.Hello peer) = Some (Hello n peer)
step_command n asked.Leave = Some (Leave n)

-- the command that is this event in every world, if there is one
abbrev pub command_of_event : Event → Option Command
command_of_event (events.Step n event) = step_command n event
command_of_event (events.Put n k v read) = Some (write_command n k v.stamp v.body (Some read))
command_of_event (events.Deliver f n word) = Some (Deliver f (Some n) word)
command_of_event (events.Restart n image) = Some (Restart n image)

-- there is a command, which is taken and has a spelling, however many resolvers are at hand
abbrev pub IsSpelled : Option Command → Type 0
IsSpelled None = ⊥
IsSpelled (Some command) =
    (fault_in command ≡ None) × ((resolvers : ℕ) → HasSpelling resolvers command)

-- ---- the replay

-- the root of each of `nodes` nodes is asked for
abbrev pub roots_of : ℕ → List Command
roots_of nodes = map Root (range_with_len 0 nodes)

-- the commands of the events, one after the other, and then the roots
abbrev pub scenario_of_run : (nodes : ℕ) → List Event → Scenario
scenario_of_run nodes events = record {
  nodes = nodes;
  commands = filter_map command_of_event events ++ roots_of nodes;
}

-- a run has a text exactly if this is so: what is said about it is one line, a world can have so
-- many nodes, and each event is spelled
pub record HasReplay (about : List ℕ) (nodes : ℕ) (events : List Event) : Type 0 where
  pub one_line : IsOneLine about
  pub count : (resolvers : ℕ) → HasSpelling resolvers (Nodes nodes)
  pub each : All (λ event. IsSpelled (command_of_event event)) events

-- ---- what the text asks for

-- the command is taken, and is this event in every world
pub record Asks (event : Event) (command : Command) : Type 0 where
  pub is_taken : fault_in command ≡ None
  pub is_event : (w : World) → event_of w command ≡ Some event

-- the first of these commands ask for these events, one after the other, and those are left
abbrev pub AskFor : List Command → List Event → (left : List Command) → Type 0
AskFor commands [] left = left ≡ commands
AskFor [] (event ∷ events) left = ⊥
AskFor (command ∷ commands) (event ∷ events) left =
    Asks event command × AskFor commands events left

-- the text is a scenario of `nodes` nodes, with this number of resolvers at hand; its commands ask
-- for these events, one after the other, and then for the root of each node
pub record Replays (resolvers nodes : ℕ) (events : List Event) (text : List ℕ) : Type 0 where
  pub is_whole : first_bad resolvers text ≡ None
  pub commands : List Command
  pub is_scenario : scenario_of (commands_of resolvers text)
      ≡ Some (record { nodes = nodes; commands = commands })
  pub asks : AskFor commands events (roots_of nodes)
