use Rattle.node_hosted.proofs.Serving.{served_again}
use Rattle.node_hosted.proofs.laws.a_file_can_be_served_again.Goals as goal

pub returns : goal.returns
returns c = served_again
