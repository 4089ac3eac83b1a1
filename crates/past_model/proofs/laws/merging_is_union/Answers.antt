use Rattle.past_model.specs.Past.{writes}
use Rattle.past_model.proofs.Sound.{orderly}
use Rattle.past_model.proofs.Merging.{sync_object}
use Rattle.past_model.proofs.laws.merging_is_union.Goals as goal

pub returns : goal.returns
returns c = λ hs history k S T a b. sync_object (writes hs) k S T a b (orderly hs history)
