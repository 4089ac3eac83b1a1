use Rattle.past_model.specs.Past.{writes}
use Rattle.past_model.proofs.Sound.{orderly}
use Rattle.past_model.proofs.Order.{set_from_context}
use Rattle.past_model.proofs.Arisen.{object_from_context}
use Rattle.past_model.proofs.laws.the_context_determines_the_set.Goals as goal

pub returns-clause-set : goal.returns-clause-set
returns-clause-set c = λ hs history k S T a b. set_from_context (writes hs) k S T a b (orderly hs history).ordered.falling

pub returns-clause-object : goal.returns-clause-object
returns-clause-object c = object_from_context
