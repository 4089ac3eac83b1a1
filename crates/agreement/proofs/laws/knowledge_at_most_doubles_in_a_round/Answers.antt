use Rattle.agreement.proofs.Doubling.{doubles, one_needs, sixteen_need}
use Rattle.agreement.proofs.laws.knowledge_at_most_doubles_in_a_round.Goals as goal

pub returns-clause-doubles : goal.returns-clause-doubles
returns-clause-doubles c = doubles

pub returns-clause-one : goal.returns-clause-one
returns-clause-one c = one_needs

pub returns-clause-sixteen : goal.returns-clause-sixteen
returns-clause-sixteen c = sixteen_need
