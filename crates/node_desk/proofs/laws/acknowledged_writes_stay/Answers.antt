use Rattle.node_desk.proofs.Lasting.{writes_stay}
use Rattle.node_desk.proofs.laws.acknowledged_writes_stay.Goals as goal

pub returns : goal.returns
returns c = writes_stay
