use Rattle.node_outcomes.proofs.Outcomes.{each_has_an_outcome}
use Rattle.node_outcomes.proofs.laws.each_event_has_an_outcome.Goals as goal

pub returns : goal.returns
returns c = each_has_an_outcome
