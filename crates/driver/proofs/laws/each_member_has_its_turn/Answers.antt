use Rattle.driver.proofs.Turns.{each_has_its_turn}
use Rattle.driver.proofs.laws.each_member_has_its_turn.Goals as goal

pub returns : goal.returns
returns c = each_has_its_turn
