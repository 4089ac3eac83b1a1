use Rattle.driver.proofs.Rounds.{joins_come_first, joins_go_round}
use Rattle.driver.proofs.laws.joins_go_round.Goals as goal

pub returns-clause-in_turn : goal.returns-clause-in_turn
returns-clause-in_turn c = joins_go_round

pub returns-clause-first : goal.returns-clause-first
returns-clause-first c = joins_come_first
