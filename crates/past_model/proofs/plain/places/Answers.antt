use Rattle.std.proofs.Common.{◌≤◌, length, arith, false}
use Rattle.std.proofs.lemmas.List.{get_or_past}
use Rattle.past_model.specs.Moment.{marked_places}
use Rattle.past_model.proofs.Listing.{all_places}
use Rattle.past_model.proofs.plain.places.Goals as goal

pub returns : goal.returns
returns c =
    let marks = c.args.marks.now in
    let all : length marks ≤ c.loop-place.place = omega arith in
    all_places (marked_places marks) c.loop-place.place c.loop-place.places.items (λ p le. get_or_past marks p false (omega arith)) c.loop-place.invariant
