use Rattle.node_hosted.proofs.Filing.{kept, recorded}
use Rattle.node_hosted.proofs.laws.a_write_has_its_record.Goals as goal

pub returns-clause-writes : goal.returns-clause-writes
returns-clause-writes c = λ old new event key gate acts its_key its_gate. recorded old event new key gate acts its_key its_gate

pub returns-clause-keeps : goal.returns-clause-keeps
returns-clause-keeps c = λ old new event key gate acts its_key its_gate some. kept old new event key gate acts its_key its_gate some
