use Rattle.agreement.proofs.Meetings.{known_after, others_stay, all_agree, objects_agree, meetings_history}
use Rattle.agreement.proofs.laws.exchanges_of_objects_are_exchanges_of_knowledge.Goals as goal

pub returns-clause-history : goal.returns-clause-history
returns-clause-history c = meetings_history

pub returns-clause-known : goal.returns-clause-known
returns-clause-known c = known_after

pub returns-clause-others : goal.returns-clause-others
returns-clause-others c = others_stay

pub returns-clause-agree : goal.returns-clause-agree
returns-clause-agree c = λ hs k many es are. all_agree hs k many es are.know_all are.of_first

pub returns-clause-objects : goal.returns-clause-objects
returns-clause-objects c = λ hs k many es are. objects_agree hs k many es are.know_all are.of_first
