use Rattle.past_model.specs.Past.{writes}
use Rattle.past_model.proofs.Placed.{ordered}
use Rattle.past_model.proofs.Order.{descends-subset}
use Rattle.past_model.proofs.laws.descending_is_inclusion.Goals as goal

pub returns-clause-sets : goal.returns-clause-sets
returns-clause-sets c = λ hs history k S T a b. descends-subset (writes hs) k S T a b (ordered hs).falling

pub returns-clause-order : goal.returns-clause-order
returns-clause-order c =
    λ hs k a b left right. (
      (λ e. record {
        lesser = left.set;
        greater = right.set;
        of_lesser = left.object_of;
        of_greater = right.object_of;
        within = (descends-subset (writes hs) k left.set right.set a b (ordered hs).falling left.object_of right.object_of).0 e;
      }),
      (λ below. (descends-subset (writes hs) k below.lesser below.greater a b (ordered hs).falling below.of_lesser below.of_greater).1 below.within),
    )
