-- Nodes that were closed: of each the state from which its journal began, the journal, and what it
-- held at the end.
use Rattle.std.specs.Prelude.{◌≡◌, ◌<◌, ◌≤◌, ℕ, nat_eq, List, [], length, map, All}
use Rattle.std.specs.List.{IsDistinct}
use Rattle.std.specs.Option.{ForSome}
use Rattle.meta_store.specs.Table.{Table}
use Rattle.node_core.specs.Node.{NodeParts, opening}
use Rattle.node_core.specs.Run.{IsRun}
use Rattle.node_events.specs.Event.{other_of}
use Rattle.node_events.specs.declared.event.NodeEvent.{NodeEvent}
use Rattle.node_journal.specs.declared.entry.Entry.{Entry}
use Rattle.node_journal.specs.Entry.{step_of}

pub record ClosedNode : Type 0 where
  pub base : NodeParts
  pub journal : List Entry
  pub table : Table

-- the number of the node
abbrev pub number_of : ClosedNode → ℕ
number_of c = c.base.node

-- its journal is a run of the node from its base, which ends with its table
pub record EndsWithTable (c : ClosedNode) : Type 0 where
  pub end : NodeParts
  pub run : IsRun c.base (map step_of c.journal) end
  pub table : end.table ≡ c.table

-- the other node that the event names, if it names one, is below `count`
abbrev pub NamesBelow : ℕ → NodeEvent → Type 0
NamesBelow count event = ForSome (other_of event) (λ n. n < count)

-- a whole first life among `count` nodes: it began as a new node, and names none but those
pub record IsWhole (count : ℕ) (c : ClosedNode) : Type 0 where
  pub base : c.base ≡ opening (number_of c) 1 []
  pub within : All (λ e. NamesBelow count e.event) c.journal

-- the nodes 0, 1 and so on, in any order, each once and with its whole first life among them
pub record AreWhole (closed : List ClosedNode) : Type 0 where
  pub some : 1 ≤ length closed
  pub within : All (λ c. number_of c < length closed) closed
  pub once : IsDistinct nat_eq (map number_of closed)
  pub whole : All (IsWhole (length closed)) closed
