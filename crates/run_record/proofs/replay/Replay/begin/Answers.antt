use Rattle.run_record.proofs.Ending.{begins}
use Rattle.run_record.proofs.replay.Replay.begin.Goals as goal

pub returns-in-Ok-clause-ok : goal.returns-in-Ok-clause-ok
returns-in-Ok-clause-ok c = begins c.args.closed.now c.in-Ok.world c.in_ok-next.next.items
    c.in_ok-marks.marks.items c.in-Ok.ensures.value c.in_ok-next.ensures
    c.in_ok-marks.ensures.number c.in_ok-marks.ensures.empty
