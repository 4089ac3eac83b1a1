use Rattle.node_core.proofs.Outcomes.{one_outcome}
use Rattle.node_core.proofs.laws.no_event_has_two_outcomes.Goals as goal

pub returns : goal.returns
returns c = one_outcome
