use Rattle.std.proofs.Common.{List, ℕ, refl, subst, inl, inr}
use Rattle.plumctl_file.specs.Reported.{WritesOut, WritesFront}
use Rattle.plumctl_file.proofs.Device.{device_line}
use Rattle.plumctl_file.proofs.cause.tell_device.Goals as goal

pub returns-in-Ok-clause-ends : goal.returns-in-Ok-clause-ends
returns-in-Ok-clause-ends g c =
    inl (record {
      status_is = refl;
      prints = subst (λ (text : List ℕ). WritesOut (g.W.Sink.at c.args.writer.now) (g.W.Sink.at c.print.new.writer) text) device_line c.in-Ok.ensures.ok;
      told = c.tell_cause.ensures;
    })

pub returns-in-Err-clause-ends : goal.returns-in-Err-clause-ends
returns-in-Err-clause-ends g c =
    inr (record {
      fault = c.in-Err.fault;
      status_is = c.tell.ensures.status;
      stops = subst (λ (text : List ℕ). WritesFront (g.W.Sink.at c.args.writer.now) (g.W.Sink.at c.print.new.writer) text c.in-Err.fault) device_line c.in-Err.ensures.err;
      told = c.tell.ensures.told;
    })
