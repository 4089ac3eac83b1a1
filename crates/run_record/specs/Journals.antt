-- The journals of many nodes, by the number of the node.
use Rattle.std.specs.Prelude.{ℕ, ◌≡◌, ◌≤◌, ◌==◌, List, [], ◌∷◌, length, slice_get, Option, if◌then◌else◌}
use Rattle.meta_store.specs.Table.{Table}
use Rattle.node_journal.specs.declared.entry.Entry.{Entry}
use Rattle.node_journal.specs.Closed.{ClosedNode, number_of}

-- the journal of the node of this number, or no entry if there is no such node
abbrev pub journal_of : List ClosedNode → ℕ → List Entry
journal_of [] n = []
journal_of (c ∷ cs) n = if number_of c == n then c.journal else journal_of cs n

-- what the node of this number held at the end
abbrev pub last_table : List ClosedNode → ℕ → Table
last_table [] n = []
last_table (c ∷ cs) n = if number_of c == n then c.table else last_table cs n

-- the entry at a place, from 0, of a node's journal
abbrev pub entry_at : List ClosedNode → ℕ → ℕ → Option Entry
entry_at closed n p = slice_get (journal_of closed n) p

-- there are no journals except those of the nodes 0, 1 and so on, as many as there are nodes
abbrev pub HaveNodes : List ClosedNode → Type 0
HaveNodes closed = (n : ℕ) → length closed ≤ n → journal_of closed n ≡ []
