use Rattle.node_lock.proofs.node.Node.close.Goals as goal

pub returns-in-Err-clause-refused : goal.returns-in-Err-clause-refused
returns-in-Err-clause-refused g c = record { out = _; list = _; refuses = c.in-Err.ensures.refused }
