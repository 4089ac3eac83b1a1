use Rattle.past_model.proofs.Deliveries.{stale_exactly, stale_unchanged}
use Rattle.past_model.proofs.object_laws.a_delivery_is_stale_where_it_is_known.Goals as goal

pub returns-clause-exactly : goal.returns-clause-exactly
returns-clause-exactly c = stale_exactly

pub returns-clause-unchanged : goal.returns-clause-unchanged
returns-clause-unchanged c = stale_unchanged
