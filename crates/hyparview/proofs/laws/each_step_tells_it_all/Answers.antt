use Rattle.hyparview.proofs.Standing.{each_step_tells_it_all}
use Rattle.hyparview.proofs.laws.each_step_tells_it_all.Goals as goal

pub returns : goal.returns
returns c = each_step_tells_it_all
