use Rattle.std.proofs.Common.{◌≡◌, ◌++◌}
use Rattle.node_overlay.specs.Origin.{whole_messages}
use Rattle.node_overlay.proofs.messages.whole_messages.Given as goal

abbrev pub invariant-loop-out : goal.invariant-loop-out
invariant-loop-out l = l.sent.items ++ whole_messages l.out-iterator.rest.items ≡ whole_messages l.fn.outs.items
