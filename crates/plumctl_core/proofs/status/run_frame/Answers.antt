use Rattle.std.proofs.Common.{inl}
use Rattle.plumctl_core.proofs.Going.{Keeps-self}
use Rattle.plumctl_core.proofs.status.run_frame.Goals as goal

pub returns-in-Ok-clause-ends : goal.returns-in-Ok-clause-ends
returns-in-Ok-clause-ends g c =
    inl (record {
      ended = c.in-Ok.ended;
      status_is = c.status.ensures;
      kept = Keeps-self _;
      read_sound = c.in-Ok.ensures.sound.0;
      write_sound = c.in-Ok.ensures.sound.1;
      prints = c.in-Ok.ensures.ok;
    })
