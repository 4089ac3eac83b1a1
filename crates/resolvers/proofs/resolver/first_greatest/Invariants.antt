use Rattle.std.proofs.Common.{length}
use Rattle.std.specs.List.{IsFirstBest}
use Rattle.std.specs.Ordering.{is_lt}
use Rattle.resolvers.specs.Ranks.{order_of}
use Rattle.resolvers.proofs.resolver.first_greatest.Given as goal

abbrev pub invariant-loop-place : goal.invariant-loop-place
invariant-loop-place l =
    IsFirstBest (λ x y. is_lt (order_of l.rank y x)) l.values l.place l.greatest
