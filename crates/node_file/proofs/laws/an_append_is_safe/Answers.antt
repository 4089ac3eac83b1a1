use Rattle.node_file.proofs.ByHosts.{takes_record}
use Rattle.node_file.proofs.laws.an_append_is_safe.Goals as goal

pub returns : goal.returns
returns c = takes_record
