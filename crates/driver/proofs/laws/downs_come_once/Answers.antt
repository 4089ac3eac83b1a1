use Rattle.driver.proofs.Downs.{downs_come_once, joined_counts_as_up}
use Rattle.driver.proofs.laws.downs_come_once.Goals as goal

pub returns-clause-once : goal.returns-clause-once
returns-clause-once c = downs_come_once

pub returns-clause-again : goal.returns-clause-again
returns-clause-again c = joined_counts_as_up
