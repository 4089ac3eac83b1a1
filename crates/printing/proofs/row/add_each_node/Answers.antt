use Rattle.std.proofs.Common.{ap, ◌∙◌, ◌++◌, true}
use Rattle.std.specs.Prelude.{decimal}
use Rattle.printing.proofs.Lists.{add_next}
use Rattle.printing.proofs.row.add_each_node.Goals as goal

pub loop-node-preserved : goal.loop-node-preserved
loop-node-preserved c =
    add_next decimal true c.loop-node.first c.args.nodes.now c.loop-node.node-index c.node-item.result _ _ _
    c.loop-node-test.true c.node-item.is c.loop-node.invariant
    (c.in_ok-add_node.ensures ∙ ap (λ bytes. bytes ++ decimal c.node-item.result) c.in_ok-add_comma.ensures)
