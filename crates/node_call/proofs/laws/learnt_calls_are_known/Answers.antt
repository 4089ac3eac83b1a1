use Rattle.node_call.proofs.Listing.{call_is_known}
use Rattle.node_call.proofs.laws.learnt_calls_are_known.Goals as goal

pub returns : goal.returns
returns c = call_is_known
