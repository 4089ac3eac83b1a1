use Rattle.std.specs.Prelude.{if◌then◌else◌, slice_get}
use Rattle.past_model.specs.Moment.{marked_places, is_write_under}
use Rattle.past_model.proofs.Marking.{Marking}
use Rattle.past_model.proofs.moment.replaced.Given as goal

abbrev pub invariant-loop-place : goal.invariant-loop-place
invariant-loop-place l = Marking l.marks.items (λ p. if is_write_under l.key (slice_get l.history p) then marked_places l.new p else marked_places l.old p) l.place
