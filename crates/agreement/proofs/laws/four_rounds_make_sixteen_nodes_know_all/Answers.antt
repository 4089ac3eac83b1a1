use Rattle.agreement.proofs.Cube.{four_are, four_agree}
use Rattle.agreement.proofs.laws.four_rounds_make_sixteen_nodes_know_all.Goals as goal

pub returns-clause-rounds : goal.returns-clause-rounds
returns-clause-rounds c = four_are

pub returns-clause-agree : goal.returns-clause-agree
returns-clause-agree c = four_agree
