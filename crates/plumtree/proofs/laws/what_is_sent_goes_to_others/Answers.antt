use Rattle.plumtree.proofs.Sending.{sends_to_others}
use Rattle.plumtree.proofs.laws.what_is_sent_goes_to_others.Goals as goal

pub returns : goal.returns
returns c = sends_to_others
