use Rattle.past_model.proofs.Arisen.{least_upper_bound}
use Rattle.past_model.proofs.laws.merging_is_the_least_upper_bound.Goals as goal

pub returns : goal.returns
returns c = least_upper_bound
