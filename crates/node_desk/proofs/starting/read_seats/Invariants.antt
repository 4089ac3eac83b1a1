use Rattle.node_desk.specs.Starting.{AreNewReaders}
use Rattle.node_desk.proofs.starting.read_seats.Given as goal

abbrev pub invariant-loop-place : goal.invariant-loop-place
invariant-loop-place g l = AreNewReaders l._place l.seats.items
