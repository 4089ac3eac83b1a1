use Rattle.node_hosted.proofs.Lasting.{left_has_all, left_opens}
use Rattle.node_hosted.proofs.laws.what_is_left_has_all.Goals as goal

pub returns-clause-opens : goal.returns-clause-opens
returns-clause-opens c = left_opens

pub returns-clause-has_all : goal.returns-clause-has_all
returns-clause-has_all c = left_has_all
