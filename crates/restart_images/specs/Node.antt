-- One node with its images: its state, and beside it what its writes and keepings left.
use Rattle.std.specs.Prelude.{◌≡◌, ℕ, ◌+◌, ◌≤◌, List, [], ◌∷◌, ◌++◌, length, Option, Some, None}
use Rattle.std.specs.Option.{option_map}
use Rattle.meta_types.specs.Name.{Key}
use Rattle.dvvset.specs.Object.{Entry}
use Rattle.meta_store.specs.Context.{Reading}
use Rattle.meta_store.specs.Table.{Table, IsTable, object_at}
use Rattle.node_events.specs.Event.{stored_key}
use Rattle.node_events.specs.declared.event.NodeEvent.{NodeEvent}
use Rattle.node_events.specs.declared.event.NodeEvent.TheVariants.{Read, PutOver}
use Rattle.node_core.specs.declared.state.Stepped.{Stepped}
use Rattle.node_core.specs.Node.{NodeParts, opening, present}
use Rattle.node_core.specs.Step.{IsNodeStep}
use Rattle.restart_images.specs.declared.node.ImagedStep.{ImagedStep}
use Rattle.restart_images.specs.Images.{Image, holdings}
use Rattle.restart_images.specs.Keeping.{Keeping, change_at}

-- the node, its images, and the number of the one that the next image changes
pub record ImagedNode : Type 0 where
  pub state : NodeParts
  pub images : List Image
  pub standing : ℕ

-- what a history tells of it
abbrev pub keeping : ImagedNode → Keeping
keeping n = record {
  table = n.state.table;
  images = n.images;
  standing = n.standing;
  incarnation = n.state.incarnation;
}

-- a node in its first life, which holds nothing and has no image except the empty one
abbrev pub new_node : ℕ → ImagedNode
new_node number = record { state = opening number 1 []; images = []; standing = 0 }

-- ---- a step

-- the context that an event reads with: a read hands it out, and a write over all has read it
abbrev pub context_read : NodeEvent → NodeParts → Option Reading
context_read (Read key) s = Some (present key s)
context_read (PutOver key value) s = Some (present key s)
context_read event s = None

-- the node in this state, with these images; this one stands
abbrev pub with_images : NodeParts → List Image → ℕ → ImagedNode
with_images state images standing = record { state = state; images = images; standing = standing }

-- the images, with one more if a change is left: it changes the standing one
abbrev pub images_with : Option (Option (Key × List Entry)) → ℕ → List Image → List Image
images_with None standing images = images
images_with (Some change) standing images =
    images ++ (record { base = standing; change = change }) ∷ []

-- which one stands from then on
abbrev pub standing_with : Option (Option (Key × List Entry)) → ℕ → List Image → ℕ
standing_with None standing images = standing
standing_with (Some change) standing images = length images + 1

-- the node in this state; if an image is left, it has what the node then holds under the key
abbrev pub arrived : NodeParts → Option Key → ImagedNode → ImagedNode
arrived state key n =
    let change = option_map (change_at state.table) key in
    with_images state (images_with change n.standing n.images)
    (standing_with change n.standing n.images)

-- what the step of the node itself gave
abbrev pub stepped_of : ImagedStep → Stepped
stepped_of given = record { reply = given.reply; outbox = given.outbox }

-- the node makes its step, and an image if the event leaves one; the step gives its reply twice,
-- and the context of its read
pub record IsImagedStep (old : ImagedNode) (event : NodeEvent) (new : ImagedNode)
    (given : ImagedStep) : Type 0 where
  pub state : NodeParts
  pub step : IsNodeStep old.state event state (stepped_of given)
  pub arrives : new ≡ arrived state (stored_key event) old
  pub copy : given.copy ≡ given.reply
  pub context : given.context ≡ context_read event old.state

-- ---- a restart

-- the node begins its next life with a table that holds what the image of that number has
pub record BeginsFrom (images : List Image) (number : ℕ) (old new : NodeParts) : Type 0 where
  pub there : number ≤ length images
  pub table : Table
  pub is_table : IsTable table
  pub restored : (key : Key) → object_at table key ≡ holdings images number key
  pub begins : new ≡ opening old.node (old.incarnation + 1) table

-- so it does from one of its images, which then stands
pub record IsRestarted (old : ImagedNode) (number : ℕ) (new : ImagedNode) : Type 0 where
  pub begins : BeginsFrom old.images number old.state new.state
  pub images : new.images ≡ old.images
  pub standing : new.standing ≡ number
