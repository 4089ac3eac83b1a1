-- What a step changes of what is held, by its event and its reply; that what is held only grows;
-- and which event hands out a context.
use Rattle.std.specs.Prelude.{◌≡◌, ◌≢◌, ℕ, List, Option, Some, None, slice_get, true}
use Rattle.std.specs.FinMap.{find}
use Rattle.meta_types.specs.Name.{Key}
use Rattle.meta_types.specs.Value.{ValueParts}
use Rattle.meta_types.specs.Order.{key_cmp}
use Rattle.dvvset.specs.Object.{Entry}
use Rattle.dvvset.specs.Clock.{descends, join}
use Rattle.dvvset.specs.Writer.{entry_of, shown}
use Rattle.meta_frame.specs.Frame.{Spells}
use Rattle.meta_frame.specs.declared.message.Frame.{Frame}
use Rattle.meta_store.specs.Context.{Reading}
use Rattle.meta_store.specs.Table.{IsTable, Table, object_at, with_object}
use Rattle.node_events.specs.declared.event.NodeEvent.{NodeEvent}
use Rattle.node_events.specs.declared.event.NodeEvent.TheVariants.{Read, Write, PutOver, Take}
use Rattle.node_events.specs.declared.reply.Reply.{Reply}
use Rattle.node_events.specs.declared.reply.Reply.TheVariants.{Looked, Wrote, TookFresh}
use Rattle.node_core.specs.declared.state.Stepped.{Stepped}
use Rattle.node_core.specs.Node.{NodeParts, present, writer}
use Rattle.node_core.specs.Step.{IsNodeStep}
use Rattle.node_core.specs.Run.{IsRun}
use Rattle.node_core.specs.Leaving.{carried_object}

-- ---- the key whose object an event changes

-- the bytes spell a frame that carries an object under the key
pub record CarriesUnder (key : Key) (bytes : List ℕ) : Type 0 where
  pub frame : Frame
  pub spelled : Spells frame bytes
  pub object : List Entry
  pub carried : carried_object frame.message ≡ Some (key, object)

-- the key under which an accepted event with this reply changed what is held: the key of a write,
-- or of the object in a frame that was taken fresh
abbrev pub IsKeyChanged : NodeEvent → Reply → Key → Type 0
IsKeyChanged (Write written value context) reply key = key ≡ written
IsKeyChanged (PutOver written value) reply key = key ≡ written
IsKeyChanged (Take bytes word) TookFresh key = CarriesUnder key bytes
IsKeyChanged event reply key = ⊥

-- this is the key under which it changed what is held, or none if it changed nothing
abbrev pub TellsKeyChanged : NodeEvent → Reply → Option Key → Type 0
TellsKeyChanged event reply None = (key : Key) → IsKeyChanged event reply key → ⊥
TellsKeyChanged event reply (Some key) = IsKeyChanged event reply key

-- under that key there may be another object now, and all else is as before; if there is no such
-- key, all is as before
pub record ChangesUnder (event : NodeEvent) (reply : Reply) (old new : Table) : Type 0 where
  pub there : (key : Key) → IsKeyChanged event reply key
      → new ≡ with_object key (object_at new key) old
  pub nowhere : ((key : Key) → IsKeyChanged event reply key → ⊥) → new ≡ old

-- ---- the reply to a write

-- the newest value that an object shows of a writer
abbrev pub newest : ℕ → List Entry → Option ValueParts
newest w object = slice_get (shown (entry_of object w)) 0

-- the reply has the vector of what is then held under the key; and what was written is the newest
-- value of the writer there
pub record TellsWrite (w : ℕ) (key : Key) (value : ValueParts) (reply : Reply) (new : Table)
    : Type 0 where
  pub vector : reply ≡ Wrote (join (object_at new key))
  pub newest : newest w (object_at new key) ≡ Some value

-- a reply to a write tells of it
abbrev pub TellsOf : ℕ → NodeEvent → Reply → Table → Type 0
TellsOf w (Write key value context) reply new = TellsWrite w key value reply new
TellsOf w (PutOver key value) reply new = TellsWrite w key value reply new
TellsOf w event reply new = Unit {0}

-- ---- what is held grows

-- a key that is held stays held
abbrev pub KeepsKeys : Table → Table → Type 0
KeepsKeys old new = (key : Key) → find key_cmp key old ≢ None → find key_cmp key new ≢ None

-- under each key the later object knows all events that the earlier one knew
abbrev pub Descends : Table → Table → Type 0
Descends old new =
    (key : Key) → descends (join (object_at new key)) (join (object_at old key)) ≡ true

-- ---- the laws

-- the context that a write brings, if it brings one
abbrev pub context_of_write : NodeEvent → Option Reading
context_of_write (Write key value context) = context
context_of_write event = None

-- the event changes one object or none, a reply to a write tells of it, and objects descend those
-- that were there
pub record StepGrows (old : NodeParts) (event : NodeEvent) (new : NodeParts) (s : Stepped)
    : Type 0 where
  pub changes : ChangesUnder event s.reply old.table new.table
  pub tells : TellsOf (writer old) event s.reply new.table
  pub descends : Descends old.table new.table

abbrev pub EachStepGrows : NodeEvent → Type 0
EachStepGrows event = (old new : NodeParts) (s : Stepped)
    → IsTable old.table → IsNodeStep old event new s → StepGrows old event new s

-- a key once held stays held, over a step and over a run; and descending is transitive
pub record HeldIsKept : Type 0 where
  pub steps : (old : NodeParts) (event : NodeEvent) (new : NodeParts) (s : Stepped)
      → IsNodeStep old event new s → KeepsKeys old.table new.table
  pub runs : (steps : List (NodeEvent × Stepped)) (old new : NodeParts)
      → IsRun old steps new → KeepsKeys old.table new.table
  pub onwards : (first second third : Table) → IsTable first
      → Descends first second → Descends second third → Descends first third

-- a reply with a context is the reply to a read, and the context is of what the node held
abbrev pub OnlyReadsHandOut : Type 0
OnlyReadsHandOut = (old : NodeParts) (event : NodeEvent) (new : NodeParts) (s : Stepped)
    (values : List ValueParts) (context : Reading)
    → IsNodeStep old event new s → s.reply ≡ Looked values context
    → (key : Key) × ((event ≡ Read key) × (context ≡ present key old))
