use Rattle.node_readers.proofs.seat.ReadSeat.peek_with.Goals as goal

pub returns-clause-holds_learnt : goal.returns-clause-holds_learnt
returns-clause-holds_learnt g c = rw (← c.self.view_is) c.visit-back.ensures.holds
