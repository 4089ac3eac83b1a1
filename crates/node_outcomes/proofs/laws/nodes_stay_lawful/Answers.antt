use Rattle.node_outcomes.proofs.Outcomes.{nodes_stay_lawful}
use Rattle.node_outcomes.proofs.laws.nodes_stay_lawful.Goals as goal

pub returns : goal.returns
returns c = nodes_stay_lawful
