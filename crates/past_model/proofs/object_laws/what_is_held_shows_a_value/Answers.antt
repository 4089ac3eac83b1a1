use Rattle.past_model.proofs.Deliveries.{held_shows, sent_shows, merged_shows}
use Rattle.past_model.proofs.object_laws.what_is_held_shows_a_value.Goals as goal

pub returns-clause-held : goal.returns-clause-held
returns-clause-held c = held_shows

pub returns-clause-sent : goal.returns-clause-sent
returns-clause-sent c = sent_shows

pub returns-clause-merged : goal.returns-clause-merged
returns-clause-merged c = merged_shows
