use Rattle.driver.proofs.Rounds.{exchanges_go_round}
use Rattle.driver.proofs.laws.exchanges_go_round.Goals as goal

pub returns : goal.returns
returns c = exchanges_go_round
