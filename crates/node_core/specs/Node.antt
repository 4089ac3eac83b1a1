-- One node.
use Rattle.std.specs.Prelude.{ℕ, ◌≡◌, ◌≤◌, List, [], replicate, length}
use Rattle.meta_types.specs.Actor.{writer_number}
use Rattle.meta_types.specs.Name.{Key}
use Rattle.meta_types.specs.Node.{most_nodes}
use Rattle.dvvset.specs.Clock.{join}
use Rattle.dvvset.specs.Object.{Counter}
use Rattle.meta_store.specs.Context.{Reading, reading_at}
use Rattle.meta_store.specs.Table.{Table, object_at}
use Rattle.subscriptions.specs.Watching.{Watching}
use Rattle.node_overlay.specs.Outbox.{count_on}
use Rattle.node_overlay.specs.Overlay.{IsOverlay, Overlay, empty_overlay}
use Rattle.subscriptions.specs.Watches.{most_watches}

-- which node it is, and in which of its lives; what it holds, whom it talks to, and who watches it;
-- the greatest life that it heard of each of the sixteen nodes, in the order of their numbers, 0 if
-- it heard of none; and of its life, how many steps it made, how many frames it sent, and how many
-- ticks it had
pub record NodeParts : Type 0 where
  pub node : ℕ
  pub incarnation : ℕ
  pub table : Table
  pub overlay : Overlay
  pub watches : List Watching
  pub heard : List ℕ
  pub steps : ℕ
  pub frames : ℕ
  pub ticks : ℕ

abbrev pub parts : ℕ → ℕ → Table → Overlay → List Watching → List ℕ → ℕ → ℕ → ℕ → NodeParts
parts node incarnation table overlay watches heard steps frames ticks = record {
  node = node;
  incarnation = incarnation;
  table = table;
  overlay = overlay;
  watches = watches;
  heard = heard;
  steps = steps;
  frames = frames;
  ticks = ticks;
}

-- what a node keeps of itself, beside what its parts keep: the views are its own, and lives are
-- numbered from 1
pub record IsInLife (s : NodeParts) : Type 0 where
  pub own_views : s.overlay.views.node ≡ s.node
  pub lives : 1 ≤ s.incarnation

-- what always holds of a node, beside what the types of its parts say: the broadcast's peers are
-- the members of its active view, it never names itself, it has few watches, and there is a life
-- heard, or none, of each of the sixteen nodes
pub record IsNodeState (s : NodeParts) : Type 0 where
  pub overlay : IsOverlay s.overlay
  pub few_watches : length s.watches ≤ most_watches
  pub in_life : IsInLife s
  pub lives_heard : length s.heard ≡ most_nodes

-- a life begins with a table, and with nothing else
abbrev pub opening : ℕ → ℕ → Table → NodeParts
opening node incarnation table = record {
  node = node;
  incarnation = incarnation;
  table = table;
  overlay = empty_overlay node;
  watches = [];
  heard = replicate most_nodes 0;
  steps = 0;
  frames = 0;
  ticks = 0;
}

-- who counts what the node writes
abbrev pub writer : NodeParts → ℕ
writer s = writer_number s.node s.incarnation

-- how many events of each writer it knows under the key
abbrev pub vector_under : Key → NodeParts → List Counter
vector_under key s = join (object_at s.table key)

-- the context that a read in its next step hands out; a write over all has read it, and its source
-- is seen nowhere
abbrev pub present : Key → NodeParts → Reading
present key s = reading_at s.table key (record { actor = writer s; step = count_on s.steps 1 })

-- the node, with this overlay
abbrev pub with_overlay : Overlay → NodeParts → NodeParts
with_overlay overlay s = record s { overlay = overlay }
