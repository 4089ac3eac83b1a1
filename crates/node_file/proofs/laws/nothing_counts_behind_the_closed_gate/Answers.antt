use Rattle.node_file.proofs.Parting.{laid_out}
use Rattle.node_file.proofs.Torn.{nothing_behind}
use Rattle.node_file.proofs.laws.nothing_counts_behind_the_closed_gate.Goals as goal

pub returns : goal.returns
returns c = λ bytes behind s gate opens. nothing_behind bytes behind s gate (laid_out s gate bytes opens)
