-- What an event of a world is to its node: a step of the node, or a restart from an image.
use Rattle.std.specs.Prelude.{ℕ, List, [], Option, None}
use Rattle.std.specs.Option.{unwrap_or}
use Rattle.meta_store.specs.Context.{Reading}
use Rattle.node_events.specs.Event.{other_of}
use Rattle.node_events.specs.declared.event.NodeEvent.{NodeEvent}
use Rattle.node_events.specs.declared.event.NodeEvent.TheVariants.{Take, Write}
use Rattle.world_core.specs.declared.event.Event.{Event}
use Rattle.world_core.specs.declared.event.Event.TheVariants as events
use Rattle.world_core.specs.Numbers.{numbered}

-- whose event it is
abbrev pub node_of_event : Event → ℕ
node_of_event (events.Step n event) = n
node_of_event (events.Put n k v read) = n
node_of_event (events.Deliver frame n word) = n
node_of_event (events.Restart n image) = n

-- the other node that it names, if it names one
abbrev pub other_node_of : Event → Option ℕ
other_node_of (events.Step n event) = other_of event
other_node_of event = None

-- a step of the node, or its restart from the image of a number
pub data Doing : Type 0 where
  Step : NodeEvent → Doing
  Begin : ℕ → Doing

-- what an event is, by the contexts of the reads and the bytes of the frames so far
abbrev pub doing_of : List Reading → List (List ℕ) → Event → Doing
doing_of contexts frames (events.Step n event) = Step event
doing_of contexts frames (events.Put n k v read) = Step (Write k v (numbered contexts read))
doing_of contexts frames (events.Deliver frame n word) =
    Step (Take (unwrap_or (numbered frames frame) []) word)
doing_of contexts frames (events.Restart n image) = Begin image
