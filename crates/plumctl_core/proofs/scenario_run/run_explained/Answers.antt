use Rattle.std.proofs.Common.{inl, inr, subst, sym}
use Rattle.scenario.specs.Run.{ReadsAll}
use Rattle.plumctl_core.proofs.Going.{Keeps-self}
use Rattle.plumctl_core.proofs.scenario_run.run_explained.Goals as goal

pub returns-in-Ok-clause-ends : goal.returns-in-Ok-clause-ends
returns-in-Ok-clause-ends g c =
    let at = g.R.Source.at in
    inl (record {
      text = c.as_slice-in-Ok.result.now;
      reads = subst (ReadsAll (at c.args.reader.now) (at c.read_text.new.reader)) (sym c.as_slice-in-Ok.ensures.value) c.in-Ok.ensures.ok;
      ends = c.run_as.ensures.ends;
    })

pub returns-in-Err-clause-ends : goal.returns-in-Err-clause-ends
returns-in-Err-clause-ends g c =
    inr (record {
      fault = c.in-Err.fault;
      status_is = c.tell.ensures.status;
      told = c.tell.ensures.told;
      stops = c.in-Err.ensures.err;
      kept = Keeps-self _;
    })
