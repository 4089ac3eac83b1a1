use Rattle.scenario_outcomes.proofs.Worlds.{worlds_stay_lawful}
use Rattle.scenario_outcomes.proofs.laws.worlds_stay_lawful.Goals as goal

pub returns : goal.returns
returns c = worlds_stay_lawful
