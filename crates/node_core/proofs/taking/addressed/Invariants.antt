use Rattle.std.proofs.Common.{◌≡◌, ◌++◌, map}
use Rattle.node_overlay.specs.Overlay.{envelope}
use Rattle.node_core.proofs.taking.addressed.Given as goal

abbrev pub invariant-loop-message : goal.invariant-loop-message
invariant-loop-message l =
    l.sent.items ++ map (envelope l.to) l.message-iterator.rest.items ≡ map (envelope l.to) l.fn.messages.items
