use Rattle.std.proofs.Common.{◌≡◌, ◌++◌, map}
use Rattle.node_overlay.specs.Origin.{envelope_with}
use Rattle.node_overlay.proofs.messages.gossips.Given as goal

abbrev pub invariant-loop-out : goal.invariant-loop-out
invariant-loop-out l =
    l.sent.items ++ map (envelope_with l.object) l.out-iterator.rest.items ≡ map (envelope_with l.object) l.fn.outs.items
