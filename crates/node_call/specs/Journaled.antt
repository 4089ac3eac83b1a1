-- The journal of a node and what it published: which changes its entries made, in their order.
use Rattle.std.specs.Prelude.{◌≡◌, ℕ, List, [], ◌∷◌, ◌++◌, Some}
use Rattle.meta_types.specs.Name.{Key}
use Rattle.meta_types.specs.Value.{ValueParts}
use Rattle.dvvset.specs.Clock.{join}
use Rattle.meta_store.specs.Table.{Table, object_at}
use Rattle.node_events.specs.declared.event.NodeEvent.{NodeEvent}
use Rattle.node_events.specs.declared.event.NodeEvent.TheVariants.{Write, PutOver}
use Rattle.node_events.specs.declared.reply.Reply.{Reply}
use Rattle.node_events.specs.declared.reply.Reply.TheVariants.{Wrote}
use Rattle.node_core.specs.Growing.{IsKeyChanged, newest}
use Rattle.node_core.specs.Node.{NodeParts}
use Rattle.node_core.specs.Step.{IsNodeStep}
use Rattle.node_journal.specs.declared.entry.Entry.{Entry}
use Rattle.node_journal.specs.Entry.{stepped_of}
use Rattle.node_readers.specs.Published.{Published}

-- what an accepted event with this reply published, after which this table is held: what is held
-- under the key that it changed; nothing, if it changed none
abbrev pub IsPublishedBy : NodeEvent → Reply → Table → List Published → Type 0
IsPublishedBy event reply held [] = (key : Key) → IsKeyChanged event reply key → ⊥
IsPublishedBy event reply held (c ∷ []) =
    IsKeyChanged event reply c.key × (c.object ≡ object_at held c.key)
IsPublishedBy event reply held (c ∷ d ∷ more) = ⊥

-- one entry, and what it published
pub record IsEntryStep (old : NodeParts) (e : Entry) (changes : List Published) (new : NodeParts)
    : Type 0 where
  pub step : IsNodeStep old e.event new (stepped_of e)
  pub published : IsPublishedBy e.event e.reply new.table changes

-- a run of these entries, with all that they published, in order
abbrev pub IsRunWith : NodeParts → List Entry → List Published → NodeParts → Type 0
IsRunWith old [] changes new = (changes ≡ []) × (new ≡ old)
IsRunWith old (e ∷ es) changes new =
    (between : NodeParts) × (first : List Published) × (later : List Published)
    × IsEntryStep old e first between × (changes ≡ first ++ later) × IsRunWith between es later new

-- what the journal published is the last of the list, and all of it if nothing was cut
pub record IsJournaled (base state : NodeParts) (journal : List Entry) (list : List Published)
    : Type 0 where
  pub before : List Published
  pub published : List Published
  pub list_is : list ≡ before ++ published
  pub run : IsRunWith base journal published state
  pub whole : base.steps ≡ 0 → before ≡ []

-- ---- what a write is answered

-- the list ends with the key's object: the reply has its vector, and the value is the writer's
-- newest in it
pub record EndsWith (w : ℕ) (key : Key) (value : ValueParts) (reply : Reply) (list : List Published)
    : Type 0 where
  pub before : List Published
  pub change : Published
  pub last : list ≡ before ++ change ∷ []
  pub under : change.key ≡ key
  pub vector : reply ≡ Wrote (join change.object)
  pub newest : newest w change.object ≡ Some value

-- if the entry is a write, the list ends with what it wrote
abbrev pub EndsWithWrite : ℕ → NodeEvent → Reply → List Published → Type 0
EndsWithWrite w (Write key value context) reply list = EndsWith w key value reply list
EndsWithWrite w (PutOver key value) reply list = EndsWith w key value reply list
EndsWithWrite w event reply list = Unit {0}

abbrev pub TellsOfEntry : ℕ → Entry → List Published → Type 0
TellsOfEntry w e list = EndsWithWrite w e.event e.reply list
