-- What private functions say of what is made ready before an entry is kept.
use Rattle.std.specs.Prelude.{◌≡◌, ◌≢◌, ◌≤◌, ◌⊎◌, ◌-◌, ◌^◌, ℕ, List, [], ◌∷◌, length, Option, Some, None}
use Rattle.std.specs.FinMap.{find}
use Rattle.meta_types.specs.Name.{Key}
use Rattle.meta_types.specs.Order.{key_cmp}
use Rattle.meta_store.specs.Table.{IsTable, Table, object_at}
use Rattle.node_events.specs.declared.event.NodeEvent.{NodeEvent}
use Rattle.node_events.specs.declared.fault.StepFault.TheVariants as OfStep
use Rattle.node_events.specs.declared.reply.Reply.{Reply}
use Rattle.node_core.specs.declared.state.Stepped.{Stepped}
use Rattle.node_core.specs.Growing.{IsKeyChanged, KeepsKeys, StepGrows}
use Rattle.node_core.specs.Node.{NodeParts}
use Rattle.node_core.specs.Run.{CountsOn}
use Rattle.node_core.specs.Step.{CanComeOf, IsNodeStep}
use Rattle.node_journal.specs.declared.entry.Entry.{Entry}
use Rattle.node_journal.specs.Entry.{stepped_of}
use Rattle.node_readers.specs.Published.{Published}
use Rattle.node_call.specs.declared.fault.LockFault.{LockFault}
use Rattle.node_call.specs.declared.fault.LockFault.TheVariants.{Step, JournalFull, Memory}
use Rattle.node_call.specs.declared.ready.Made.{Made}
use Rattle.node_call.specs.Journaled.{IsPublishedBy}

-- a journal of this limit and `count` entries takes no more; nor does a life whose steps are
-- counted as far as they can be
abbrev pub IsFullFor : ℕ → ℕ → ℕ → Type 0
IsFullFor limit count steps = (limit ≤ count) ⊎ (2 ^ 64 - 1 ≤ steps)

-- what is ready: the event, the entry to be handed out, and what it publishes
pub record ReadyView : Type 0 where
  pub event : NodeEvent
  pub entry : Entry
  pub change : Option Published

-- the change, if there is one, as a list
abbrev pub listed : Option Published → List Published
listed None = []
listed (Some change) = change ∷ []

-- what is held under the key, if there is a key
abbrev pub IsHeldUnder : Option Key → Table → Option Published → Type 0
IsHeldUnder None held change = change ≡ None
IsHeldUnder (Some key) held None = ⊥
IsHeldUnder (Some key) held (Some change) =
    (change.key ≡ key) × (change.object ≡ object_at held key)

-- what the event changed is held
abbrev pub HoldsChanged : NodeEvent → Reply → Table → Type 0
HoldsChanged event reply held =
    (key : Key) → IsKeyChanged event reply key → find key_cmp key held ≢ None

abbrev pub entry_made : NodeEvent → Stepped → Entry
entry_made event s = record { event = event; reply = s.reply; outbox = s.outbox }

-- a step, with what the laws of steps say of it
pub record IsKnownStep (old : NodeParts) (event : NodeEvent) (new : NodeParts) (s : Stepped)
    : Type 0 where
  pub step : IsNodeStep old event new s
  pub grows : StepGrows old event new s
  pub lawful : IsTable new.table
  pub keeps : KeepsKeys old.table new.table
  pub counts : CountsOn 1 (length s.outbox) old new

-- what is made of the step of an event: its entry, and what it publishes
pub record IsMade (old : NodeParts) (event : NodeEvent) (new : NodeParts) (stepped : Stepped)
    (made : Made) : Type 0 where
  pub entry : made.entry ≡ entry_made event stepped
  pub known : IsKnownStep old made.entry.event new (stepped_of made.entry)
  pub change : IsPublishedBy made.entry.event made.entry.reply new.table (listed made.change)

-- what is ready: the event, the entry of the step that was attempted, and what it publishes
pub record IsReady (old : NodeParts) (event : NodeEvent) (new : NodeParts) (stepped : Stepped)
    (ready : ReadyView) : Type 0 where
  pub is_event : ready.event ≡ event
  pub entry : ready.entry ≡ entry_made event stepped
  pub known : IsKnownStep old ready.entry.event new (stepped_of ready.entry)
  pub change : IsPublishedBy ready.entry.event ready.entry.reply new.table (listed ready.change)

-- the step is one that the node can make
pub record CanStep (old : NodeParts) (event : NodeEvent) : Type 0 where
  pub new : NodeParts
  pub stepped : Stepped
  pub step : IsNodeStep old event new stepped

-- why nothing is made ready: the step is refused, or it can be made and there is no room in the
-- journal, of this limit and length
abbrev pub Prevents : NodeParts → NodeEvent → ℕ → ℕ → LockFault → Type 0
Prevents old event limit count (Step fault) = (fault ≢ OfStep.Memory) × CanComeOf old event fault
Prevents old event limit count JournalFull = CanStep old event × IsFullFor limit count old.steps
Prevents old event limit count Memory = Unit {0}
Prevents old event limit count fault = ⊥
