use Rattle.std.proofs.Common.{sym, ◌∙◌}
use Rattle.run_record.proofs.Ending.{as_closed, one_more, unequal_table}
use Rattle.run_record.proofs.checks.check_tables.Goals as goal

pub returns-then-not-is_table_of-clause-err : goal.returns-then-not-is_table_of-clause-err
returns-then-not-is_table_of-clause-err c =
    unequal_table c.args.closed.now c.args.world.now c.loop-node.node c.in-Some.state.now
    c.runs_go_on.ensures c.requires.journals c.loop-node-test.true c.in-Some.ensures.lived
    c.in-Some.ensures.lends (λ table.
    let yes = c.is_table_of.ensures.1 (c.store.ensures ∙ table) in
    cc (yes, c.if-not-is_table_of.true))

pub loop-node-preserved : goal.loop-node-preserved
loop-node-preserved c =
    one_more c.args.closed.now c.args.world.now c.loop-node.node c.loop-node.invariant
    (as_closed c.args.closed.now c.args.world.now c.loop-node.node c.in-Some.state.now
    c.requires.journals c.loop-node-test.true c.in-Some.ensures.lived c.in-Some.ensures.lends
    (sym c.store.ensures ∙ c.is_table_of.ensures.0 c.if-not-is_table_of.false)
    c.in-Some.ensures.shows)
