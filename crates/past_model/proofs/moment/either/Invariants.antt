use Rattle.std.specs.Prelude.{◌||◌}
use Rattle.past_model.specs.Moment.{marked_places}
use Rattle.past_model.proofs.Marking.{Marking}
use Rattle.past_model.proofs.moment.either.Given as goal

abbrev pub invariant-loop-place : goal.invariant-loop-place
invariant-loop-place l = Marking l.both.items (λ p. marked_places l.a p || marked_places l.b p) l.place
