use Rattle.past_model.specs.Past.{writes}
use Rattle.past_model.proofs.Placed.{ordered}
use Rattle.past_model.proofs.Survivor.{shows_a_value, object_shows_a_value}
use Rattle.past_model.proofs.laws.an_object_with_a_write_shows_a_value.Goals as goal

pub returns-clause-of_a_set : goal.returns-clause-of_a_set
returns-clause-of_a_set c = λ hs k S a p. shows_a_value (writes hs) k S a p (ordered hs)

pub returns-clause-arisen : goal.returns-clause-arisen
returns-clause-arisen c = λ hs k a is. object_shows_a_value (writes hs) k is.set a (ordered hs) is.object_of
