-- What private functions alone cite: that an event is a step, and that what it names is there.
use Rattle.std.specs.Prelude.{◌≡◌, ℕ, ◌<◌, ◌⊎◌, List, length, Option, Some, None}
use Rattle.meta_frame.specs.Frame.{RefusesBytes}
use Rattle.meta_frame.specs.declared.fault.FrameFault.{FrameFault}
use Rattle.meta_store.specs.Context.{Reading}
use Rattle.node_events.specs.Event.{other_of}
use Rattle.node_events.specs.Fault.{of_frame}
use Rattle.node_events.specs.declared.event.NodeEvent.{NodeEvent}
use Rattle.node_events.specs.declared.event.NodeEvent.TheVariants.{Take, Write}
use Rattle.world_core.specs.declared.event.Event.{Event}
use Rattle.world_core.specs.declared.event.Event.TheVariants as events
use Rattle.world_core.specs.declared.fault.WorldFault.{WorldFault}
use Rattle.world_core.specs.declared.fault.WorldFault.TheVariants.{LooksLikeFrame, Memory}
use Rattle.world_core.specs.Fault.{of_step}
use Rattle.world_core.specs.Refusal.{IsFrame, RefusesEvent}
use Rattle.world_core.specs.Numbers.{numbered}
use Rattle.world_core.specs.World.{World}

-- any event except a restart
abbrev pub IsOfStep : Event → Type 0
IsOfStep (events.Restart n image) = ⊥
IsOfStep event = Unit {0}

-- the node is there, if one is named
abbrev pub HasNode : World → Option ℕ → Type 0
HasNode w None = Unit {0}
HasNode w (Some n) = n < length w.nodes

-- a node of the world can be asked this: the other node that it names is there, and it brings no
-- context and no bytes, which only the world hands out
abbrev pub CanBeAsked : World → NodeEvent → Type 0
CanBeAsked w (Write k v (Some context)) = ⊥
CanBeAsked w (Take bytes word) = ⊥
CanBeAsked w event = HasNode w (other_of event)

-- what a step names is there
abbrev pub HasNamed : World → Event → Type 0
HasNamed w (events.Step n event) = CanBeAsked w event
HasNamed w (events.Put n k v read) =
    (context : Reading) × (numbered w.contexts read ≡ Some context)
HasNamed w (events.Deliver frame n word) =
    (bytes : List ℕ) × (numbered w.frames frame ≡ Some bytes)
HasNamed w (events.Restart n image) = Unit {0}

-- memory ran out, or this is the first cause
abbrev pub MayRefuse : World → Event → WorldFault → Type 0
MayRefuse w event fault = (fault ≡ Memory) ⊎ RefusesEvent w event fault

-- no node of the world can be asked this
abbrev pub IsNotAsked : World → NodeEvent → WorldFault → Type 0
IsNotAsked w event fault =
    (n : ℕ) → n < length w.nodes → MayRefuse w (events.Step n event) fault

-- junk is refused as a frame, or as what is no frame for its first cause, or memory ran out
abbrev pub JunkFails : List ℕ → WorldFault → Type 0
JunkFails bytes fault = (fault ≡ Memory) ⊎ ((IsFrame bytes × (fault ≡ LooksLikeFrame))
    ⊎ ((by_bytes : FrameFault) × (RefusesBytes bytes by_bytes
    × (fault ≡ of_step (of_frame by_bytes)))))
