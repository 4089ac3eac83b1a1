use Rattle.std.proofs.Common.{◌≡◌, [], drop, map}
use Rattle.plumtree.specs.Broadcast.{broadcast_with, peer_call}
use Rattle.plumtree.specs.Lawful.{broadcast_after}
use Rattle.plumtree.specs.Ticking.{peers_of}
use Rattle.plumtree.proofs.cast.Cast.foresee_changes.Given as goal

abbrev pub invariant-loop-change : goal.invariant-loop-change
invariant-loop-change l = peers_of (broadcast_after (broadcast_with l.peers.eager l.peers.lazy [] []) (map peer_call (drop l.change-index l.changes)))
    ≡ peers_of (broadcast_after l.self (map peer_call l.changes))
