use Rattle.past_model.specs.Past.{writes}
use Rattle.past_model.proofs.Entries.{one_object}
use Rattle.past_model.proofs.Existing.{object_of, absent_object}
use Rattle.past_model.proofs.Staying.{object_stays}
use Rattle.past_model.proofs.laws.a_closed_set_has_one_object.Goals as goal

pub returns-clause-exists : goal.returns-clause-exists
returns-clause-exists c = λ hs history k S closed. object_of (writes hs) k S closed

pub returns-clause-one : goal.returns-clause-one
returns-clause-one c = λ hs k S a b. one_object (writes hs) k S a b

pub returns-clause-stays : goal.returns-clause-stays
returns-clause-stays c = object_stays

pub returns-clause-absent : goal.returns-clause-absent
returns-clause-absent c = λ hs k. absent_object (writes hs) k
