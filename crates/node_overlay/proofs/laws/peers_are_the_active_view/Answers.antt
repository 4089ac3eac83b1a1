use Rattle.node_overlay.proofs.Peering.{stay_peers}
use Rattle.node_overlay.proofs.laws.peers_are_the_active_view.Goals as goal

pub returns : goal.returns
returns c = stay_peers
