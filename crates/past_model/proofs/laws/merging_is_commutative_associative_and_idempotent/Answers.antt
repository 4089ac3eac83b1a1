use Rattle.past_model.proofs.Arisen.{arisen_sync, arisen_comm, arisen_assoc, arisen_idem}
use Rattle.past_model.proofs.laws.merging_is_commutative_associative_and_idempotent.Goals as goal

pub returns-clause-arisen : goal.returns-clause-arisen
returns-clause-arisen c = arisen_sync

pub returns-clause-commutative : goal.returns-clause-commutative
returns-clause-commutative c = arisen_comm

pub returns-clause-associative : goal.returns-clause-associative
returns-clause-associative c = arisen_assoc

pub returns-clause-idempotent : goal.returns-clause-idempotent
returns-clause-idempotent c = arisen_idem
