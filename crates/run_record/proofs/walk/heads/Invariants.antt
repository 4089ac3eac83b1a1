use Rattle.run_record.specs.Passing.{AreHeads}
use Rattle.run_record.proofs.walk.heads.Given as goal

abbrev pub invariant-loop-node : goal.invariant-loop-node
invariant-loop-node l = AreHeads l.closed l.next l.node l.places.items
