-- A writer is a node in one of its lives, which incarnations number. It is one number, in an order
-- that is first by node, then by incarnation. The rule is our own.
use Rattle.std.specs.Prelude.{◌≡◌, ◌<◌, ◌⊎◌, ℕ, ◌+◌, ◌*◌, ◌/◌, ◌%◌}
use Rattle.meta_types.specs.Node.{IsNode}

-- how many incarnation numbers a node has: those of 32 bits
abbrev pub incarnations : ℕ
incarnations = 4294967296

-- the writer of a node's number and an incarnation
abbrev pub writer_number : ℕ → ℕ → ℕ
writer_number node incarnation = node * incarnations + incarnation

-- the node of a writer, and its incarnation
abbrev pub node_of_writer : ℕ → ℕ
node_of_writer writer = writer / incarnations

abbrev pub incarnation_of_writer : ℕ → ℕ
incarnation_of_writer writer = writer % incarnations

-- a number that a writer may have
abbrev pub IsWriter : ℕ → Type 0
IsWriter writer = IsNode (node_of_writer writer)

-- by node, and at one node by incarnation
abbrev pub WriterBefore : ℕ → ℕ → Type 0
WriterBefore one other = (node_of_writer one < node_of_writer other)
    ⊎ ((node_of_writer one ≡ node_of_writer other)
    × (incarnation_of_writer one < incarnation_of_writer other))
