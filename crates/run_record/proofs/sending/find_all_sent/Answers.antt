use Rattle.std.proofs.Common.{arith, refl}
use Rattle.run_record.proofs.Ungiven.{none_unsent, one_node_more}
use Rattle.run_record.proofs.sending.find_all_sent.Goals as goal

pub loop-node-preserved : goal.loop-node-preserved
loop-node-preserved c = one_node_more c.args.closed.now c.loop-node.node
    c.journal_of-journal.result.now c.journal_of-journal.ensures c.loop-node.invariant
    (c.in_default.ensures.none refl)

pub returns-clause-ok : goal.returns-clause-ok
returns-clause-ok c = none_unsent c.args.closed.now c.loop-node.node c.requires (omega arith)
    c.loop-node.invariant
