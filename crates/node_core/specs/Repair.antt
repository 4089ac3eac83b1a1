-- The repair of siblings: if two or more stand under a key, the chosen one is written over all.
use Rattle.std.specs.Prelude.{ℕ, ◌≡◌, nat_le, List, [], length, slice_get, Option, None, Some, if◌then◌else◌}
use Rattle.std.specs.Option.{option_map}
use Rattle.meta_types.specs.Name.{Key}
use Rattle.meta_types.specs.Value.{ValueParts}
use Rattle.dvvset.specs.Clock.{values_of}
use Rattle.meta_store.specs.Table.{object_at}
use Rattle.node_events.specs.declared.event.NodeEvent.{NodeEvent}
use Rattle.node_events.specs.declared.event.NodeEvent.TheVariants.{PutOver}
use Rattle.node_events.specs.declared.fault.StepFault.{StepFault}
use Rattle.node_events.specs.declared.fault.StepFault.TheVariants.{Memory}
use Rattle.node_events.specs.declared.reply.Reply.TheVariants.{Done}
use Rattle.node_core.specs.declared.state.Stepped.{Stepped}
use Rattle.node_core.specs.Node.{NodeParts}
use Rattle.node_core.specs.Step.{CanComeOf, IsNodeStep}

-- of two or more siblings, the one at the place that is chosen, which is in the list by the law of
-- a resolver
abbrev pub chosen : (List ValueParts → ℕ) → List ValueParts → Option ValueParts
chosen choice siblings =
    if nat_le 2 (length siblings) then slice_get siblings (choice siblings) else None

-- it is to be written over all of them
abbrev pub repair_event : (List ValueParts → ℕ) → Key → NodeParts → Option NodeEvent
repair_event choice key s =
    option_map (PutOver key) (chosen choice (values_of (object_at s.table key)))

-- the step of that event; if there is none, nothing changes, nothing is sent, and it is done
abbrev pub IsRepair : Option NodeEvent → NodeParts → NodeParts → Stepped → Type 0
IsRepair None old new stepped =
    (new ≡ old) × (stepped ≡ record { reply = Done; outbox = [] })
IsRepair (Some event) old new stepped = IsNodeStep old event new stepped

-- it is refused as that event is
abbrev pub CanComeOfRepair : Option NodeEvent → NodeParts → StepFault → Type 0
CanComeOfRepair None old fault = fault ≡ Memory
CanComeOfRepair (Some event) old fault = CanComeOf old event fault
