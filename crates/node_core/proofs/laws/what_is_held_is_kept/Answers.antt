use Rattle.node_core.proofs.Growing.{held_is_kept}
use Rattle.node_core.proofs.laws.what_is_held_is_kept.Goals as goal

pub returns : goal.returns
returns c = held_is_kept
