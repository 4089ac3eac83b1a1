use Rattle.plumctl_core.proofs.Ending.{ends_and_tells}
use Rattle.plumctl_core.proofs.scenario_run.run_as.Goals as goal

pub returns-clause-ends : goal.returns-clause-ends
returns-clause-ends g c = ends_and_tells _ _ _ _ _ _ _ c.run_text-ended.result c.run_text-ended.ensures.ok c.run_text-ended.ensures.err c.end_status.ensures.done c.end_status.ensures.fault
