use Rattle.node_call.proofs.Listing.{learnt_is_known}
use Rattle.node_call.proofs.laws.learnt_writes_are_known.Goals as goal

pub returns : goal.returns
returns c = learnt_is_known
