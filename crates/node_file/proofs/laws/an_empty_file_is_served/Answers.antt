use Rattle.node_file.proofs.Made.{made_stands, serves}
use Rattle.node_file.proofs.laws.an_empty_file_is_served.Goals as goal

pub returns : goal.returns
returns c node few = (serves node few, made_stands node few)
