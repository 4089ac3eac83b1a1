-- A lawful world, and a lawful event, which may name what no world has. A new world is lawful, and
-- each lawful event leaves one.
use Rattle.std.specs.Prelude.{◌≡◌, ℕ, ◌<◌, ◌≤◌, length, All}
use Rattle.meta_types.specs.Name.{IsKey}
use Rattle.meta_types.specs.Node.{most_nodes}
use Rattle.meta_types.specs.Value.{IsValue}
use Rattle.dvvset.specs.Object.{IsVector}
use Rattle.node_events.specs.declared.event.NodeEvent.TheVariants.{Write, PutOver, Take}
use Rattle.node_outcomes.specs.Lawful.{IsLawfulNode}
use Rattle.restart_images.specs.Keeping.{IsRestorable}
use Rattle.restart_images.specs.Node.{ImagedNode, keeping}
use Rattle.world_core.specs.declared.event.Event.{Event}
use Rattle.world_core.specs.declared.event.Event.TheVariants as events
use Rattle.world_core.specs.Refusal.{IsFrame, node_at}
use Rattle.world_core.specs.World.{World}

-- the node has this number, is lawful, and can be restarted from each of its images
pub record IsLawfulAt (n : ℕ) (node : ImagedNode) : Type 0 where
  pub number : node.state.node ≡ n
  pub state : IsLawfulNode node.state
  pub images : IsRestorable (keeping node)

-- there are at most sixteen nodes, each of them is lawful, what was sent is frames, and the context
-- of each read has a vector
pub record IsLawfulWorld (w : World) : Type 0 where
  pub most : length w.nodes ≤ most_nodes
  pub nodes : (n : ℕ) → n < length w.nodes → IsLawfulAt n (node_at w n)
  pub frames : All IsFrame w.frames
  pub contexts : All (λ read. IsVector read.vector) w.contexts

-- a key and a value that it brings are lawful, and junk is bytes; whether the nodes, the frame, the
-- read and the image that it names are there is for the world to check
abbrev pub IsLawfulWorldEvent : Event → Type 0
IsLawfulWorldEvent (events.Step n (Write key value context)) = IsKey key × IsValue value
IsLawfulWorldEvent (events.Step n (PutOver key value)) = IsKey key × IsValue value
IsLawfulWorldEvent (events.Step n (Take bytes word)) = All (λ b. b < 256) bytes
IsLawfulWorldEvent (events.Put n key value read) = IsKey key × IsValue value
IsLawfulWorldEvent event = Unit {0}
