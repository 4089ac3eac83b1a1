use Rattle.node_overlay.proofs.Naming.{names_others_on}
use Rattle.node_overlay.proofs.laws.a_node_never_names_itself.Goals as goal

pub returns : goal.returns
returns c = names_others_on
