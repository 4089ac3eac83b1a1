use Rattle.plumtree.proofs.Standing.{peers_come_and_go}
use Rattle.plumtree.proofs.laws.peers_come_up_and_go_down.Goals as goal

pub returns : goal.returns
returns c = peers_come_and_go
