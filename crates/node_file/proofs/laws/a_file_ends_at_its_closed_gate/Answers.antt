use Rattle.node_file.proofs.Ending.{ends_at_gate}
use Rattle.node_file.proofs.laws.a_file_ends_at_its_closed_gate.Goals as goal

pub returns : goal.returns
returns c = ends_at_gate
