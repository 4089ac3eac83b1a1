use Rattle.node_core.specs.Savepoint.{CanRollBack}
use Rattle.tests_node.proofs.savepoints.play.Given as goal

abbrev pub invariant-loop-act : goal.invariant-loop-act
invariant-loop-act g l = CanRollBack l.savepoint l.node
