use Rattle.plumtree.proofs.Standing.{stay_links}
use Rattle.plumtree.proofs.laws.peers_are_eager_or_lazy.Goals as goal

pub returns : goal.returns
returns c = stay_links
