use Rattle.run_record.specs.Passing.{AllWait}
use Rattle.run_record.proofs.walk.first_turn.Given as goal

-- none so far can go on
abbrev pub invariant-loop-node : goal.invariant-loop-node
invariant-loop-node l = AllWait l.closed l.next l.node
