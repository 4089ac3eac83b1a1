-- What a step leaves, in the words of the table: what the node holds, and that each frame that it
-- sends carries what is held then.
use Rattle.std.specs.Prelude.{◌≡◌, ℕ, List, [], ◌∷◌, Option, Some, None}
use Rattle.meta_types.specs.Name.{Key}
use Rattle.dvvset.specs.Object.{Entry}
use Rattle.meta_frame.specs.Frame.{Spells}
use Rattle.meta_frame.specs.declared.message.Frame.{Frame}
use Rattle.meta_frame.specs.declared.message.Message.{Message}
use Rattle.meta_frame.specs.declared.message.Message.TheVariants.{Gossip, XObject}
use Rattle.meta_store.specs.Table.{Table, object_at, with_object}
use Rattle.meta_store.specs.Step.{object_after_put, table_after_merge}
use Rattle.node_events.specs.declared.event.NodeEvent.{NodeEvent}
use Rattle.node_events.specs.declared.event.NodeEvent.TheVariants.{Write, PutOver, Take}
use Rattle.node_core.specs.declared.state.Stepped.{Stepped}
use Rattle.node_core.specs.Node.{NodeParts, present, writer}
use Rattle.node_core.specs.Step.{IsNodeStep}

-- the object that a message carries, with its key
abbrev pub carried_object : Message → Option (Key × List Entry)
carried_object (Gossip round key object) = Some (key, object)
carried_object (XObject key object) = Some (key, object)
carried_object message = None

-- ---- what is held

-- a table, after what came was merged
abbrev pub with_carried : Option (Key × List Entry) → Table → Table
with_carried None table = table
with_carried (Some came) table = table_after_merge table came.0 came.1

-- a frame came, and what it carries was merged
pub record MergesFrame (bytes : List ℕ) (old new : Table) : Type 0 where
  pub frame : Frame
  pub spelled : Spells frame bytes
  pub merged : new ≡ with_carried (carried_object frame.message) old

-- a write holds its object, a frame is merged, and any other event leaves all that is held as it
-- was
abbrev pub LeavesHeld : NodeParts → NodeEvent → Table → Type 0
LeavesHeld old (Write key value context) new =
    new ≡ with_object key (object_after_put old.table (writer old) key value context) old.table
LeavesHeld old (PutOver key value) new =
    new ≡ with_object key
    (object_after_put old.table (writer old) key value (Some (present key old))) old.table
LeavesHeld old (Take bytes word) new = MergesFrame bytes old.table new
LeavesHeld old event new = new ≡ old.table

-- ---- what is sent

-- what the message carries is what is held under its key
abbrev pub IsOfHeld : Table → Message → Type 0
IsOfHeld table message = (key : Key) (object : List Entry)
    → carried_object message ≡ Some (key, object) → object ≡ object_at table key

-- the bytes are these frames of the node, each of which carries what is held
abbrev pub AreOfHeld : ℕ → Table → List Frame → List (List ℕ) → Type 0
AreOfHeld node table [] [] = Unit {0}
AreOfHeld node table [] (bytes ∷ later) = ⊥
AreOfHeld node table (frame ∷ frames) [] = ⊥
AreOfHeld node table (frame ∷ frames) (bytes ∷ later) =
    (Spells frame bytes × ((frame.from ≡ node) × IsOfHeld table frame.message))
    × AreOfHeld node table frames later

-- ---- a step

-- the node is the same one, in the same life; what it holds is what the event leaves; and the
-- frames that it sends carry what it holds then
pub record StepLeaves (old : NodeParts) (event : NodeEvent) (new : NodeParts) (s : Stepped)
    : Type 0 where
  pub node : new.node ≡ old.node
  pub life : new.incarnation ≡ old.incarnation
  pub held : LeavesHeld old event new.table
  pub frames : List Frame
  pub sent : AreOfHeld new.node new.table frames s.outbox

abbrev pub EachStepLeaves : Type 0
EachStepLeaves =
    (old : NodeParts) (event : NodeEvent) (new : NodeParts) (s : Stepped)
    → IsNodeStep old event new s → StepLeaves old event new s
