use Rattle.scenario_commands.proofs.Setting.{sets_marks, stays_given}
use Rattle.scenario_commands.proofs.laws.each_command_sets_its_marks.Goals as goal

pub returns-clause-sets : goal.returns-clause-sets
returns-clause-sets c = sets_marks

pub returns-clause-stays : goal.returns-clause-stays
returns-clause-stays c choices old new command text obeys frame given = stays_given command frame old.given new.given (sets_marks choices old new command text obeys) given
