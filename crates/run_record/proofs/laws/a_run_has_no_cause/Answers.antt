use Rattle.run_record.proofs.Causeless.{a_run_has_no_cause}
use Rattle.run_record.proofs.laws.a_run_has_no_cause.Goals as goal

pub returns : goal.returns
returns c = a_run_has_no_cause
