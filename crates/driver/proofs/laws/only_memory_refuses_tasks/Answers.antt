use Rattle.driver.proofs.Refusing.{only_memory_refuses}
use Rattle.driver.proofs.laws.only_memory_refuses_tasks.Goals as goal

pub returns : goal.returns
returns c = only_memory_refuses c.each_step_counts.ensures
