use Rattle.std.specs.Prelude.{ℕ, ◌<◌}

-- the most nodes of a cluster: their numbers are 0 to 15
abbrev pub most_nodes : ℕ
most_nodes = 16

-- a number that a node may have
abbrev pub IsNode : ℕ → Type 0
IsNode n = n < most_nodes
