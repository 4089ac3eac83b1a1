use Rattle.run_record.proofs.Closing.{what_is_closed_is_equal}
use Rattle.run_record.proofs.laws.what_is_closed_is_equal.Goals as goal

pub returns : goal.returns
returns c = what_is_closed_is_equal
