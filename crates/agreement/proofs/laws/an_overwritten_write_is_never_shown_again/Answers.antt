use Rattle.agreement.proofs.Overwritten.{overwritten, other_values}
use Rattle.agreement.proofs.laws.an_overwritten_write_is_never_shown_again.Goals as goal

pub returns-clause-sibling : goal.returns-clause-sibling
returns-clause-sibling c = λ before after k p is n shown. overwritten before after k p is.place is.left is.standing n shown.0 shown.1.0 shown.1.1

pub returns-clause-values : goal.returns-clause-values
returns-clause-values c = λ before after k p is. other_values before after k p is.place is.left is.standing
