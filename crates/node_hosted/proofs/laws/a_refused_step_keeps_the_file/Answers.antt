use Rattle.node_hosted.proofs.Filing.{refused}
use Rattle.node_hosted.proofs.laws.a_refused_step_keeps_the_file.Goals as goal

pub returns : goal.returns
returns c = λ file old new event fault why is. refused file old event new fault why is
