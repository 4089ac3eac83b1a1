use Rattle.scenario_outcomes.proofs.Runs.{each_event_of_a_world_has_an_outcome}
use Rattle.scenario_outcomes.proofs.laws.each_event_of_a_world_has_an_outcome.Goals as goal

pub returns : goal.returns
returns c = each_event_of_a_world_has_an_outcome
