use Rattle.std.proofs.Common.{take, map, true}
use Rattle.std.specs.Prelude.{decimal}
use Rattle.printing.specs.Joined.{AddsTexts}
use Rattle.printing.proofs.row.add_each_node.Given as goal

abbrev pub invariant-loop-node : goal.invariant-loop-node
invariant-loop-node l = AddsTexts true (map decimal (take l.node-index l.nodes)) l.fn.out.items l.out.items l.first
