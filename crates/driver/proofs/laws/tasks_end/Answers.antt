use Rattle.driver.proofs.Ending.{tasks_end}
use Rattle.driver.proofs.laws.tasks_end.Goals as goal

pub returns : goal.returns
returns c = tasks_end
