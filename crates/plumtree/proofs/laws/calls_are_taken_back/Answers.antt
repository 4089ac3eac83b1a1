use Rattle.plumtree.proofs.TakingBack.{are_taken_back}
use Rattle.plumtree.proofs.laws.calls_are_taken_back.Goals as goal

pub returns : goal.returns
returns c = are_taken_back
