use Rattle.std.specs.Prelude.{◌&&◌, slice_get}
use Rattle.past_model.specs.Moment.{marked_places, is_write_under}
use Rattle.past_model.proofs.Marking.{Marking}
use Rattle.past_model.proofs.moment.under.Given as goal

abbrev pub invariant-loop-place : goal.invariant-loop-place
invariant-loop-place l = Marking l.found.items (λ p. is_write_under l.key (slice_get l.history p) && marked_places l.marks p) l.place
