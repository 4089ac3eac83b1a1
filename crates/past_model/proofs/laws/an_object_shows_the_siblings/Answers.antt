use Rattle.past_model.specs.Past.{writes}
use Rattle.past_model.proofs.Placed.{ordered}
use Rattle.past_model.proofs.Entries.{one_context}
use Rattle.past_model.proofs.Showing.{object_shows, one_list}
use Rattle.past_model.proofs.laws.an_object_shows_the_siblings.Goals as goal

pub returns-clause-shows : goal.returns-clause-shows
returns-clause-shows c = λ hs k S a. object_shows (writes hs) k S a (ordered hs).falling

pub returns-clause-one_list : goal.returns-clause-one_list
returns-clause-one_list c = λ hs S vs us. one_list (writes hs) S vs us

pub returns-clause-one_context : goal.returns-clause-one_context
returns-clause-one_context c = λ hs S cs ds. one_context (writes hs) S cs ds
