use Rattle.node_core.proofs.Runs.{events_decide}
use Rattle.node_core.proofs.laws.events_determine_a_run.Goals as goal

pub returns : goal.returns
returns c = events_decide
