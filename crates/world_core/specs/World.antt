-- A world: its nodes, what it has accepted and sent, and the contexts of its reads; and the lives
-- of its nodes.
use Rattle.std.specs.Prelude.{◌≡◌, ℕ, List, [], map}
use Rattle.std.specs.List.{range_with_len}
use Rattle.meta_store.specs.Context.{Reading}
use Rattle.meta_store.specs.Table.{IsTable}
use Rattle.node_core.specs.declared.state.Stepped.{Stepped}
use Rattle.node_core.specs.Node.{opening}
use Rattle.restart_images.specs.Node.{ImagedNode, new_node}
use Rattle.world_core.specs.declared.answer.Accepted.{Accepted}
use Rattle.world_core.specs.Events.{Doing}
use Rattle.world_core.specs.Lives.{Live, deeds_of}

-- contexts by the number of their read, and the bytes of frames by their number, both from 1
pub record World : Type 0 where
  pub nodes : List ImagedNode
  pub accepted : List Accepted
  pub frames : List (List ℕ)
  pub contexts : List Reading

-- a world of `count` new nodes, to which nothing has happened
abbrev pub new_world : ℕ → World
new_world count = record {
  nodes = map new_node (range_with_len 0 count);
  accepted = [];
  frames = [];
  contexts = [];
}

-- ---- what the nodes did

-- what the accepted events were to the node, in order, each with what it gave
abbrev pub deeds_in : World → ℕ → List (Doing × Stepped)
deeds_in w n = deeds_of w.contexts w.frames n w.accepted

-- a node of the world: it is the one of that number, and holds a table; and what the accepted
-- events were to it took it from a new node, in its first life, to where it is, life after life
pub record HasLived (w : World) (n : ℕ) (node : ImagedNode) : Type 0 where
  pub number : node.state.node ≡ n
  pub held : IsTable node.state.table
  pub lives : Live node.images (opening n 1 []) (deeds_in w n) node.state
