use Rattle.node_hosted.specs.Unstored.{spelled}
use Rattle.node_hosted.proofs.Histories.{goes_on}
use Rattle.node_hosted.proofs.laws.later_calls_go_on_from_the_sync.Goals as goal

pub returns : goal.returns
returns c = λ failures file crash n later left. goes_on failures file crash n.gate (spelled n.to_store) later left
