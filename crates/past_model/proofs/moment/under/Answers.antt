use Rattle.std.proofs.Common.{◌≡◌, length, subst, arith}
use Rattle.std.specs.Prelude.{slice_get, ◌&&◌}
use Rattle.past_model.specs.Moment.{marked_places, is_write_under}
use Rattle.past_model.proofs.Marking.{Marking, under_all}
use Rattle.past_model.proofs.moment.under.Goals as goal

pub returns : goal.returns
returns c =
    let hs = c.args.history.now in
    let whole : c.loop-place.place ≡ length hs = omega arith in
    under_all hs c.args.marks.now c.loop-place.found.items c.args.key.now
    (subst (λ i. Marking c.loop-place.found.items (λ p. is_write_under c.args.key.now (slice_get hs p) && marked_places c.args.marks.now p) i) whole c.loop-place.invariant)
