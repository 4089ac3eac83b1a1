use Rattle.std.proofs.Common.{All, take}
use Rattle.run_record.specs.Record.{IsKept}
use Rattle.run_record.proofs.checks.check_receipts.Given as goal

abbrev pub invariant-loop-receipt : goal.invariant-loop-receipt
invariant-loop-receipt l = All (IsKept l.closed) (take l.receipt-index l.receipts)
