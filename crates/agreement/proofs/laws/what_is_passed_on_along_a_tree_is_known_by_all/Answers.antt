use Rattle.agreement.proofs.Passing.{all_reached, over_another}
use Rattle.agreement.proofs.laws.what_is_passed_on_along_a_tree_is_known_by_all.Goals as goal

pub returns-clause-known : goal.returns-clause-known
returns-clause-known c = λ root edges tree before n m place knew. all_reached before root edges tree n m place knew

pub returns-clause-any_root : goal.returns-clause-any_root
returns-clause-any_root c = over_another
