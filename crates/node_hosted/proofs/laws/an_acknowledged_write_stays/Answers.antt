use Rattle.node_hosted.proofs.Lasting.{acknowledged_stays}
use Rattle.node_hosted.proofs.laws.an_acknowledged_write_stays.Goals as goal

pub returns : goal.returns
returns c = acknowledged_stays
