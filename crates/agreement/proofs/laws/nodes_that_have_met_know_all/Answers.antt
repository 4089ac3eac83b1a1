use Rattle.agreement.proofs.Along.{all_met}
use Rattle.agreement.proofs.laws.nodes_that_have_met_know_all.Goals as goal

pub returns : goal.returns
returns c = all_met
