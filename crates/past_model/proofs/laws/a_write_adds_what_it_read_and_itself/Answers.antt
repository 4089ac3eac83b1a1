use Rattle.past_model.proofs.Steps.{write_known, write_object, write_counter}
use Rattle.past_model.proofs.laws.a_write_adds_what_it_read_and_itself.Goals as goal

pub returns-clause-known : goal.returns-clause-known
returns-clause-known c = write_known

pub returns-clause-object : goal.returns-clause-object
returns-clause-object c = write_object

pub returns-clause-counter : goal.returns-clause-counter
returns-clause-counter c = write_counter
