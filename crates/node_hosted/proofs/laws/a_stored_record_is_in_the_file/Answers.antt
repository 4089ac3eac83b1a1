use Rattle.node_hosted.proofs.Filing.{stored}
use Rattle.node_hosted.proofs.laws.a_stored_record_is_in_the_file.Goals as goal

pub returns : goal.returns
returns c = stored
