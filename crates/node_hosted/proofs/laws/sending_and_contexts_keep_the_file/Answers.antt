use Rattle.node_hosted.proofs.Filing.{sending, with_contexts}
use Rattle.node_hosted.proofs.laws.sending_and_contexts_keep_the_file.Goals as goal

pub returns-clause-sending : goal.returns-clause-sending
returns-clause-sending c = sending

pub returns-clause-contexts : goal.returns-clause-contexts
returns-clause-contexts c = with_contexts
