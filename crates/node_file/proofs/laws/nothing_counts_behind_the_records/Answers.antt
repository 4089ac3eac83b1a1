use Rattle.node_file.proofs.Ending.{opens_alike}
use Rattle.node_file.proofs.laws.nothing_counts_behind_the_records.Goals as goal

pub returns : goal.returns
returns c = opens_alike
