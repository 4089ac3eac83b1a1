use Rattle.agreement.proofs.Along.{tree_agrees, tree_number}
use Rattle.agreement.proofs.laws.exchanges_along_a_tree_make_all_know_all.Goals as goal

pub returns-clause-agree : goal.returns-clause-agree
returns-clause-agree c = tree_agrees

pub returns-clause-number : goal.returns-clause-number
returns-clause-number c = tree_number
