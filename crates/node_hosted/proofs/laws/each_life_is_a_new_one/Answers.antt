use Rattle.node_hosted.proofs.Lasting.{life_is_new}
use Rattle.node_hosted.proofs.laws.each_life_is_a_new_one.Goals as goal

pub returns : goal.returns
returns c = life_is_new
