use Rattle.node_readers.proofs.Growing.{grows_on_all}
use Rattle.node_readers.proofs.laws.growth_goes_on_by_all.Goals as goal

pub returns : goal.returns
returns c = grows_on_all
