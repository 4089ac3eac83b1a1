use Rattle.std.proofs.Common.{drop}
use Rattle.run_record.specs.Order.{IsOrderFrom}
use Rattle.run_record.specs.Replay.{IsReplay}
use Rattle.run_record.proofs.replay.Replay.make_all.Given as goal

-- the turns that are left lead on from here
abbrev pub invariant-loop-turn : goal.invariant-loop-turn
invariant-loop-turn l = record {
  replay : IsReplay l.closed l.self;
  left : IsOrderFrom l.closed l.self.next.items (drop l.turn-index l.order);
}
