use Rattle.past_model.proofs.Changes.{objects_snoc, objects-next, after_write, after_look, after_sending, after_delivery, after_keeping, after_restart}
use Rattle.past_model.proofs.object_laws.the_machine_goes_on_with_each_happening.Goals as goal

pub returns-clause-step : goal.returns-clause-step
returns-clause-step c = objects_snoc

pub returns-clause-place : goal.returns-clause-place
returns-clause-place c = objects-next

pub returns-clause-wrote : goal.returns-clause-wrote
returns-clause-wrote c = after_write

pub returns-clause-looked : goal.returns-clause-looked
returns-clause-looked c = after_look

pub returns-clause-sent : goal.returns-clause-sent
returns-clause-sent c = after_sending

pub returns-clause-got : goal.returns-clause-got
returns-clause-got c = after_delivery

pub returns-clause-kept : goal.returns-clause-kept
returns-clause-kept c = after_keeping

pub returns-clause-restarted : goal.returns-clause-restarted
returns-clause-restarted c = after_restart
