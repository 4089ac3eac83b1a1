use Rattle.scenario_outcomes.proofs.Runs.{each_event_of_a_world_has_an_outcome}
use Rattle.scenario_outcomes.proofs.Texts.{each_has_an_output}
use Rattle.scenario_outcomes.proofs.Worlds.{worlds_stay_lawful}
use Rattle.scenario_outcomes.proofs.laws.each_text_has_an_output.Goals as goal

pub returns : goal.returns
returns c = each_has_an_output each_event_of_a_world_has_an_outcome worlds_stay_lawful
