use Rattle.node_file.proofs.ByHosts.{takes_all}
use Rattle.node_file.proofs.laws.a_batch_is_safe.Goals as goal

pub returns : goal.returns
returns c = takes_all
