use Rattle.std.proofs.Common.{sym, subst}
use Rattle.run_record.specs.Record.{HoldsJournals}
use Rattle.run_record.proofs.Ending.{holds_whole, order_from}
use Rattle.run_record.proofs.assembly.replayed.Goals as goal

pub make_all-requires-clause-order : goal.make_all-requires-clause-order
make_all-requires-clause-order c = order_from c.args.closed.now c.args.order.now
    c.in_ok-replay.replay.next.items c.requires.order c.in_ok-replay.ensures.first

pub returns-clause-journals : goal.returns-clause-journals
returns-clause-journals c =
    let closed = c.args.closed.now in
    let replay = c.make_all.new.self in
    subst (λ w. HoldsJournals closed w) (sym c.into_world.ensures)
    (holds_whole closed replay.world replay.next.items replay.marks.items
    c.in_ok-make_all.ensures.ok c.in_ok-make_all.ensures.ended)
