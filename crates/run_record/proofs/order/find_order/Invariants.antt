use Rattle.run_record.specs.Journals.{journal_of}
use Rattle.run_record.specs.Passing.{AreNextPlaces, NoneIsPast}
use Rattle.run_record.proofs.Ahead.{ahead}
use Rattle.run_record.proofs.Going.{Goes}
use Rattle.run_record.proofs.order.find_order.Given as goal

-- the turns so far lead from the first places to the next ones, and past no stuck place
abbrev pub invariant-loop-turn : goal.invariant-loop-turn
invariant-loop-turn l = record {
  places : AreNextPlaces l.closed l.next.items;
  past : NoneIsPast l.closed l.next.items;
  goes : Goes l.closed l.initial.next.items l.order.items l.next.items;
}

abbrev pub decreases-loop-turn : goal.decreases-loop-turn
decreases-loop-turn l = ahead (journal_of l.closed) 0 l.next.items
