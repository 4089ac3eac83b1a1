use Rattle.run_text.proofs.spelling.is_spelled.Goals as goal

pub returns-in-Put : goal.returns-in-Put
returns-in-Put c = rw c.in-Put.is c.is_spelled_write.ensures
