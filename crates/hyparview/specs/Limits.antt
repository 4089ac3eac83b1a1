-- The numbers of HyParView, fixed here for a cluster of at most sixteen nodes: the sizes of the two
-- views, how far walks go, and how much a shuffle offers.
use Rattle.std.specs.Prelude.{ℕ}

-- the most members of the active view
abbrev pub active_view_size : ℕ
active_view_size = 4

-- the most members of the passive view
abbrev pub passive_view_size : ℕ
passive_view_size = 8

-- how many steps a join walks
abbrev pub active_random_walk_length : ℕ
active_random_walk_length = 4

-- how many steps of its walk a join has left when the node that joined goes into reserve
abbrev pub passive_random_walk_length : ℕ
passive_random_walk_length = 2

-- how many steps a shuffle walks
abbrev pub shuffle_ttl : ℕ
shuffle_ttl = 3

-- how many members of the active view a shuffle offers
abbrev pub shuffle_active_count : ℕ
shuffle_active_count = 2

-- how many members of the passive view a shuffle offers
abbrev pub shuffle_passive_count : ℕ
shuffle_passive_count = 3

-- how many nodes a message may list
abbrev pub message_nodes_limit : ℕ
message_nodes_limit = 16
