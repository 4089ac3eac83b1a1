use Rattle.past_model.proofs.Steps.{delivery_known, delivery_object}
use Rattle.past_model.proofs.laws.a_delivery_adds_what_was_sent.Goals as goal

pub returns-clause-known : goal.returns-clause-known
returns-clause-known c = delivery_known

pub returns-clause-object : goal.returns-clause-object
returns-clause-object c = delivery_object
