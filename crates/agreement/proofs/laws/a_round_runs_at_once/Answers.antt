use Rattle.agreement.proofs.Together.{idle_stays, part_knows}
use Rattle.agreement.proofs.laws.a_round_runs_at_once.Goals as goal

pub returns-clause-part : goal.returns-clause-part
returns-clause-part c = part_knows

pub returns-clause-idle : goal.returns-clause-idle
returns-clause-idle c = idle_stays
