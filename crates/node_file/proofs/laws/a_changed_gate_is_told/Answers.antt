use Rattle.node_file.proofs.Changed.{told}
use Rattle.node_file.proofs.laws.a_changed_gate_is_told.Goals as goal

pub returns : goal.returns
returns c = told
