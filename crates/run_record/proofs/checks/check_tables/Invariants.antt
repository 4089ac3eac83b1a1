use Rattle.std.proofs.Common.{◌<◌, ℕ}
use Rattle.run_record.proofs.Ending.{IsAsClosed}
use Rattle.run_record.proofs.checks.check_tables.Given as goal

abbrev pub invariant-loop-node : goal.invariant-loop-node
invariant-loop-node l = (n : ℕ) → n < l.node → IsAsClosed l.closed l.world n
