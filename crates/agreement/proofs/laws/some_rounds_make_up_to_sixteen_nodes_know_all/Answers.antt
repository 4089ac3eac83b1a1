use Rattle.agreement.proofs.Cube.{rounds_are, rounds_of_first, rounds_number, rounds_agree, rounds_fewest}
use Rattle.agreement.proofs.Odd.{fewest_among}
use Rattle.agreement.proofs.laws.some_rounds_make_up_to_sixteen_nodes_know_all.Goals as goal

pub returns-clause-rounds : goal.returns-clause-rounds
returns-clause-rounds c = λ many least most. (rounds_are many least most, rounds_of_first many least most)

pub returns-clause-number : goal.returns-clause-number
returns-clause-number c = rounds_number

pub returns-clause-agree : goal.returns-clause-agree
returns-clause-agree c = rounds_agree

pub returns-clause-fewest : goal.returns-clause-fewest
returns-clause-fewest c = rounds_fewest

pub returns-clause-fewest_among : goal.returns-clause-fewest_among
returns-clause-fewest_among c = fewest_among
