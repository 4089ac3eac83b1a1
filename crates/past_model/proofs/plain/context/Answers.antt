use Rattle.std.proofs.Common.{length, subst, sym, ◌≤◌, arith}
use Rattle.past_model.specs.Past.{writes}
use Rattle.past_model.specs.Shown.{IsContext}
use Rattle.past_model.specs.Moment.{AreWriters, marked_places}
use Rattle.past_model.proofs.Listing.{writers, writers_below, counters_vector, counters_context}
use Rattle.past_model.proofs.Gone.{counters_next, counters_end}
use Rattle.past_model.proofs.plain.context.Goals as goal

pub loop-writer-preserved : goal.loop-writer-preserved
loop-writer-preserved c =
    let ws = writes c.args.history.now in
    let among = c.deref-writer-items.result.now in
    let are : AreWriters ws among = subst (AreWriters ws) (sym c.deref-writer-items.ensures.value) c.in_ok-writers.ensures in
    counters_next ws (marked_places c.args.marks.now) among c.loop-writer.writer-index c.writer-item.result c.count.result c.loop-writer.counters.items c.push_counter.new.counters.items
    are c.loop-writer-test.true c.writer-item.is (omega arith) c.count.ensures c.in_ok-push_counter.ensures c.loop-writer.invariant

pub new-requires : goal.new-requires
new-requires c =
    counters_vector (writes c.args.history.now) (marked_places c.args.marks.now) c.loop-writer.invariant.below c.loop-writer.counters.items c.loop-writer.invariant.are

pub returns : goal.returns
returns c =
    let hs = c.args.history.now in
    let ws = writes hs in
    let S = marked_places c.args.marks.now in
    let among = c.deref-writer-items.result.now in
    let are : AreWriters ws among = subst (AreWriters ws) (sym c.deref-writer-items.ensures.value) c.in_ok-writers.ensures in
    let all : length among ≤ c.loop-writer.writer-index = omega arith in
    subst (IsContext ws S) (sym c.new.ensures)
    (counters_context hs S c.loop-writer.counters.items c.requires.history c.requires.nodes
    (counters_end ws S among c.loop-writer.writer-index writers c.loop-writer.counters.items are all (writers_below hs c.requires.history c.requires.nodes) c.loop-writer.invariant))
