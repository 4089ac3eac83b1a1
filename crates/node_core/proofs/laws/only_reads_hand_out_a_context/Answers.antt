use Rattle.node_core.proofs.Growing.{only_reads}
use Rattle.node_core.proofs.laws.only_reads_hand_out_a_context.Goals as goal

pub returns : goal.returns
returns c = only_reads
