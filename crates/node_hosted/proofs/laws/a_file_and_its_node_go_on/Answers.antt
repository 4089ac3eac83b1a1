use Rattle.node_hosted.proofs.Lasting.{goes_on_later}
use Rattle.node_hosted.proofs.laws.a_file_and_its_node_go_on.Goals as goal

pub returns : goal.returns
returns c = λ first last is later. goes_on_later first last is later
