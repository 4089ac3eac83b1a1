use Rattle.run_record.proofs.Stuckness.{stuck_has_none}
use Rattle.run_record.proofs.laws.a_stuck_run_has_no_order.Goals as goal

pub returns : goal.returns
returns c = stuck_has_none
