use Rattle.node_readers.proofs.Growing.{grows_on}
use Rattle.node_readers.proofs.laws.growth_goes_on.Goals as goal

pub returns : goal.returns
returns c = grows_on
