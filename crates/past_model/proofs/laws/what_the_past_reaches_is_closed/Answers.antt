use Rattle.past_model.proofs.Sound.{reaches_closed}
use Rattle.past_model.proofs.laws.what_the_past_reaches_is_closed.Goals as goal

pub returns : goal.returns
returns c = reaches_closed
