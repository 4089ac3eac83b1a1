use Rattle.driver.proofs.Hellos.{hellos_come_first, hellos_come_once}
use Rattle.driver.proofs.laws.hellos_come_first.Goals as goal

pub returns-clause-first : goal.returns-clause-first
returns-clause-first c = hellos_come_first

pub returns-clause-once : goal.returns-clause-once
returns-clause-once c = hellos_come_once
