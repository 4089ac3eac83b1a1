use Rattle.std.proofs.Common.{ℕ, ◌<◌}
use Rattle.plumtree.specs.Lawful.{HasLinks}
use Rattle.world_core.specs.Refusal.{node_at}
use Rattle.agreement.proofs.laws.each_peer_stands_once.Given as goal

-- so it is of each node before
abbrev pub invariant-loop-n : goal.invariant-loop-n
invariant-loop-n l = (m : ℕ) → m < l.n → HasLinks (node_at l.world m).state.overlay.cast
