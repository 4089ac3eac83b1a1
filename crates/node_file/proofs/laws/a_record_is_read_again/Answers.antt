use Rattle.node_file.proofs.Torn.{read_again}
use Rattle.node_file.proofs.laws.a_record_is_read_again.Goals as goal

pub returns : goal.returns
returns c = read_again
