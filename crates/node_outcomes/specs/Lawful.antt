-- A lawful node and a lawful event: what the types of their parts keep, said of the parts. Each
-- life begins with a lawful node, and each step by a lawful event leaves one.
use Rattle.std.specs.Prelude.{◌≡◌, ◌<◌, ◌≤◌, ◌^◌, All, IfSome}
use Rattle.meta_types.specs.Name.{IsKey}
use Rattle.meta_types.specs.Node.{IsNode}
use Rattle.meta_types.specs.Value.{IsValue}
use Rattle.dvvset.specs.Object.{IsVector}
use Rattle.meta_store.specs.Table.{IsTable}
use Rattle.plumtree.specs.Broadcast.{Broadcast}
use Rattle.node_events.specs.declared.event.NodeEvent.{NodeEvent}
use Rattle.node_events.specs.declared.event.NodeEvent.TheVariants.{Write, PutOver, Take, Join, PeerDown, Exchange, Hello}
use Rattle.node_overlay.specs.Overlay.{IsOverlay}
use Rattle.node_core.specs.Node.{IsInLife, NodeParts, opening}

-- each number is a node's: of its peers, of those to whom an announcement waits, and of those who
-- announced what it waits for
pub record NamesNodes (b : Broadcast) : Type 0 where
  pub eager : All IsNode b.eager
  pub lazy : All IsNode b.lazy
  pub queue : All (λ a. IsNode a.peer) b.queue
  pub missing : All (λ m. All (λ a. IsNode a.peer) m.announcers) b.missing

-- the number of the node and of its life are in their range, it holds a table, the peers of its
-- broadcast are the members of its active view, and whomever views and broadcast name is another
-- node
pub record IsLawfulNode (s : NodeParts) : Type 0 where
  pub node : IsNode s.node
  pub life : s.incarnation < 2 ^ 32
  pub in_life : IsInLife s
  pub table : IsTable s.table
  pub overlay : IsOverlay s.overlay
  pub active : All IsNode s.overlay.views.active
  pub passive : All IsNode s.overlay.views.passive
  pub cast : NamesNodes s.overlay.cast

-- the node is at the beginning of a life, with a table
pub record IsLawfulOpening (s : NodeParts) : Type 0 where
  pub node : IsNode s.node
  pub first : 1 ≤ s.incarnation
  pub life : s.incarnation < 2 ^ 32
  pub table : IsTable s.table
  pub begins : s ≡ opening s.node s.incarnation s.table

-- a key, a value and what a write has read are lawful, what came is bytes, and whom the event names
-- is a node
abbrev pub IsLawfulEvent : NodeEvent → Type 0
IsLawfulEvent (Write key value context) =
    IsKey key × IsValue value × IfSome context (λ read. IsVector read.vector)
IsLawfulEvent (PutOver key value) = IsKey key × IsValue value
IsLawfulEvent (Take bytes word) = All (λ b. b < 256) bytes
IsLawfulEvent (Join contact word) = IsNode contact
IsLawfulEvent (PeerDown peer word) = IsNode peer
IsLawfulEvent (Exchange peer) = IsNode peer
IsLawfulEvent (Hello peer) = IsNode peer
IsLawfulEvent event = Unit {0}
