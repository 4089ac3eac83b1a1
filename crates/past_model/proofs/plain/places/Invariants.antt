use Rattle.std.proofs.Common.{◌≡◌}
use Rattle.past_model.specs.Moment.{marked_places}
use Rattle.past_model.proofs.Listing.{places_to}
use Rattle.past_model.proofs.plain.places.Given as goal

abbrev pub invariant-loop-place : goal.invariant-loop-place
invariant-loop-place l = l.places.items ≡ places_to (marked_places l.marks) l.place
