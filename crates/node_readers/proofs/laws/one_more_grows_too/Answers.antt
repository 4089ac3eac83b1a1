use Rattle.node_readers.proofs.Growing.{one_more_grows}
use Rattle.node_readers.proofs.laws.one_more_grows_too.Goals as goal

pub returns : goal.returns
returns c = one_more_grows
