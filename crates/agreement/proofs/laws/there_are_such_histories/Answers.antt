use Rattle.std.proofs.Common.{arith}
use Rattle.agreement.proofs.Examples.{loss_is, deletion_is}
use Rattle.agreement.proofs.laws.there_are_such_histories.Goals as goal

pub returns-clause-forgotten : goal.returns-clause-forgotten
returns-clause-forgotten c = λ v u.
    let all = loss_is v u in
    (all.0, record { places = all.1; left = all.2; contexts = all.3 })

pub returns-clause-overwritten : goal.returns-clause-overwritten
returns-clause-overwritten c = λ v u.
    let all = deletion_is v u in
    (all.0, record { place = omega arith; left = all.1; standing = all.2 }, all.3)
