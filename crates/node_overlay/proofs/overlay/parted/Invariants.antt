use Rattle.std.proofs.Common.{◌≡◌, ◌++◌}
use Rattle.node_overlay.specs.Overlay.{messages_of, peer_changes}
use Rattle.node_overlay.proofs.overlay.parted.Given as goal

abbrev pub invariant-loop-out : goal.invariant-loop-out
invariant-loop-out l =
    (l.changes.items ++ peer_changes l.out-iterator.rest.items ≡ peer_changes l.fn.outs.items)
    × (l.sent.items ++ messages_of l.out-iterator.rest.items ≡ messages_of l.fn.outs.items)
