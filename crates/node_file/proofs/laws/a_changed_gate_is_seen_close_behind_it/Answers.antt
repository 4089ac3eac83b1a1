use Rattle.node_file.proofs.Ending.{changes_alike}
use Rattle.node_file.proofs.laws.a_changed_gate_is_seen_close_behind_it.Goals as goal

pub returns : goal.returns
returns c = changes_alike
