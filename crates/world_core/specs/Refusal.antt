-- Which refusal an event meets in a world: the causes stand in their order, and the first that
-- applies gives the refusal. An event for which none applies is accepted, unless memory runs out.
use Rattle.std.specs.Prelude.{◌≡◌, ℕ, ◌<◌, ◌≤◌, ◌⊎◌, List, length, get_or, Option, Some, None}
use Rattle.meta_frame.specs.Frame.{Spells}
use Rattle.meta_frame.specs.declared.message.Frame.{Frame}
use Rattle.meta_store.specs.Table.{Table}
use Rattle.node_core.specs.Node.{NodeParts}
use Rattle.node_core.specs.Step.{IsNoFrame, IsRefused}
use Rattle.node_events.specs.declared.event.NodeEvent.{NodeEvent}
use Rattle.node_events.specs.declared.event.NodeEvent.TheVariants.{Take, Write}
use Rattle.node_events.specs.declared.fault.StepFault.{StepFault}
use Rattle.restart_images.specs.Keeping.{most_incarnation}
use Rattle.restart_images.specs.Node.{ImagedNode, new_node}
use Rattle.world_core.specs.declared.event.Event.{Event}
use Rattle.world_core.specs.declared.event.Event.TheVariants as events
use Rattle.world_core.specs.declared.fault.WorldFault.{WorldFault}
use Rattle.world_core.specs.declared.fault.WorldFault.TheVariants.{IncarnationSpent, NoSuchFrame, NoSuchRead, NoSuchNode, LooksLikeFrame, NoSuchImage}
use Rattle.world_core.specs.Events.{Begin, Doing, Step, doing_of, node_of_event, other_node_of}
use Rattle.world_core.specs.Fault.{of_step}
use Rattle.world_core.specs.Numbers.{numbered}
use Rattle.world_core.specs.World.{World}

-- ---- what there is

abbrev pub node_at : World → ℕ → ImagedNode
node_at w n = get_or w.nodes n (new_node n)

abbrev pub table_at : World → ℕ → Table
table_at w n = (node_at w n).state.table

abbrev pub doing_in : World → Event → Doing
doing_in w event = doing_of w.contexts w.frames event

-- this is the frame of that number
pub record IsFrameOf (w : World) (number : ℕ) (frame : Frame) : Type 0 where
  pub bytes : List ℕ
  pub there : numbered w.frames number ≡ Some bytes
  pub spelled : Spells frame bytes

-- ---- causes

-- the world has no node of this number, if there is one
abbrev pub HasNoNode : World → Option ℕ → Type 0
HasNoNode w None = ⊥
HasNoNode w (Some n) = length w.nodes ≤ n

-- the event is of, or names, a node that the world doesn't have
abbrev pub NamesNoNode : World → Event → Type 0
NamesNoNode w event = HasNoNode w (Some (node_of_event event)) ⊎ HasNoNode w (other_node_of event)

-- a frame is to be delivered that wasn't sent
abbrev pub NamesNoFrame : World → Event → Type 0
NamesNoFrame w (events.Deliver frame n word) = numbered w.frames frame ≡ None
NamesNoFrame w event = ⊥

-- a write names a read that wasn't made, or has a context by hand, which is that of no read
abbrev pub NamesNoRead : World → Event → Type 0
NamesNoRead w (events.Put n k v read) = numbered w.contexts read ≡ None
NamesNoRead w (events.Step n (Write k v (Some context))) = Unit {0}
NamesNoRead w event = ⊥

-- the node hasn't made the image that it is to restart from
abbrev pub NamesNoImage : World → Event → Type 0
NamesNoImage w (events.Restart n image) = length (node_at w n).images < image
NamesNoImage w event = ⊥

-- the node is in the last life that there is a number for, and is to restart
abbrev pub HasNoLifeLeft : World → Event → Type 0
HasNoLifeLeft w (events.Restart n image) = (node_at w n).state.incarnation ≡ most_incarnation
HasNoLifeLeft w event = ⊥

-- the bytes are a frame
pub record IsFrame (bytes : List ℕ) : Type 0 where
  pub frame : Frame
  pub spelled : Spells frame bytes

-- bytes that are handed in by hand, as no frame of the world, are a frame
abbrev pub IsFrameAsJunk : Event → Type 0
IsFrameAsJunk (events.Step n (Take bytes word)) = IsFrame bytes
IsFrameAsJunk event = ⊥

-- the node refuses the step, for this first cause
pub record RefusesStep (s : NodeParts) (step : NodeEvent) (fault : WorldFault) : Type 0 where
  pub by_step : StepFault
  pub cause : IsNoFrame step by_step ⊎ IsRefused s step by_step
  pub is : fault ≡ of_step by_step

abbrev pub RefusesDoing : NodeParts → Doing → WorldFault → Type 0
RefusesDoing s (Step step) fault = RefusesStep s step fault
RefusesDoing s (Begin image) fault = ⊥

-- ---- the first cause that applies

-- if the cause applies, this is the refusal; if it doesn't, the refusal is what the rest says. It
-- is `first_that_applies` for causes that are propositions and not tests
abbrev pub first_cause : Type 0 → WorldFault → (WorldFault → Type 0) → WorldFault → Type 0
first_cause cause refusal rest fault =
    (cause × (fault ≡ refusal)) ⊎ ((cause → ⊥) × rest fault)

abbrev pub RefusesEvent : World → Event → WorldFault → Type 0
RefusesEvent w event =
    first_cause (NamesNoNode w event) NoSuchNode (
    first_cause (NamesNoFrame w event) NoSuchFrame (
    first_cause (NamesNoRead w event) NoSuchRead (
    first_cause (NamesNoImage w event) NoSuchImage (
    first_cause (HasNoLifeLeft w event) IncarnationSpent (
    first_cause (IsFrameAsJunk event) LooksLikeFrame (
    RefusesDoing (node_at w (node_of_event event)).state (doing_in w event)))))))
