use Rattle.std.proofs.Common.{◌≡◌, drop, map}
use Rattle.plumtree.specs.Broadcast.{broadcast_with, peer_call}
use Rattle.plumtree.specs.Lawful.{broadcast_after}
use Rattle.plumtree.specs.Ticking.{with_peers}
use Rattle.plumtree.proofs.cast.Cast.make_changes.Given as goal

abbrev pub invariant-loop-change : goal.invariant-loop-change
invariant-loop-change l =
    let b = l.self-inside in
    record {
      eager : b.eager.keys ≡ l.fn.peers.eager;
      lazy : b.lazy.keys ≡ l.fn.peers.lazy;
      waits : with_peers l.fn.peers (broadcast_after (broadcast_with b.eager.keys b.lazy.keys b.queue.items b.missing.items) (map peer_call (drop l.change-index l.changes)))
          ≡ with_peers l.fn.peers (broadcast_after l.fn.self (map peer_call l.changes));
    }
