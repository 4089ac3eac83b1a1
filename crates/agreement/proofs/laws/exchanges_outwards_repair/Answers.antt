use Rattle.agreement.proofs.Along.{outwards_know}
use Rattle.agreement.proofs.Meetings.{repaired}
use Rattle.agreement.proofs.laws.exchanges_outwards_repair.Goals as goal

pub returns-clause-sets : goal.returns-clause-sets
returns-clause-sets c = outwards_know

pub returns-clause-writes : goal.returns-clause-writes
returns-clause-writes c = repaired
