use Rattle.std.proofs.Common.{length, subst, sym, ◌≤◌, arith}
use Rattle.past_model.specs.Past.{writes}
use Rattle.past_model.specs.Moment.{AreWriters, marked_places}
use Rattle.past_model.proofs.Listing.{writers, writers_below, all_shown}
use Rattle.past_model.proofs.Gone.{siblings_next, siblings_end}
use Rattle.past_model.proofs.plain.siblings.Goals as goal

pub loop-writer-preserved : goal.loop-writer-preserved
loop-writer-preserved c =
    let ws = writes c.args.history.now in
    let among = c.deref-writer-items.result.now in
    let are : AreWriters ws among = subst (AreWriters ws) (sym c.deref-writer-items.ensures.value) c.in_ok-writers.ensures in
    siblings_next ws (marked_places c.args.marks.now) among c.loop-writer.writer-index c.writer-item.result c.loop-writer.values.items c.push_siblings.new.values.items
    are c.loop-writer-test.true c.writer-item.is c.in_ok-push_siblings.ensures c.loop-writer.invariant

pub returns : goal.returns
returns c =
    let hs = c.args.history.now in
    let ws = writes hs in
    let S = marked_places c.args.marks.now in
    let among = c.deref-writer-items.result.now in
    let are : AreWriters ws among = subst (AreWriters ws) (sym c.deref-writer-items.ensures.value) c.in_ok-writers.ensures in
    let all : length among ≤ c.loop-writer.writer-index = omega arith in
    all_shown hs S c.loop-writer.values.items c.requires.account.history c.requires.account.nodes
    (siblings_end ws S among c.loop-writer.writer-index writers c.loop-writer.values.items are all (writers_below hs c.requires.account.history c.requires.account.nodes) c.loop-writer.invariant)
