use Rattle.scenario_commands.proofs.OneStage.{obeys_within, one_obeys}
use Rattle.scenario_commands.proofs.laws.one_text_and_one_stage_left.Goals as goal

pub returns-clause-one : goal.returns-clause-one
returns-clause-one c = one_obeys

pub returns-clause-within : goal.returns-clause-within
returns-clause-within c = obeys_within
