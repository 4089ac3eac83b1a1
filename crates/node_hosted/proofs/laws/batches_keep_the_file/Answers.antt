use Rattle.node_hosted.proofs.Filing.{batch_begun, batch_ended}
use Rattle.node_hosted.proofs.laws.batches_keep_the_file.Goals as goal

pub returns-clause-begun : goal.returns-clause-begun
returns-clause-begun c = batch_begun

pub returns-clause-ended : goal.returns-clause-ended
returns-clause-ended c = batch_ended
