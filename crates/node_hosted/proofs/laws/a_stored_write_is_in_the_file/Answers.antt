use Rattle.node_hosted.proofs.Filing.{written}
use Rattle.node_hosted.proofs.laws.a_stored_write_is_in_the_file.Goals as goal

pub returns : goal.returns
returns c = written
