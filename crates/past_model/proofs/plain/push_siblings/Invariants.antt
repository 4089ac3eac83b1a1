use Rattle.std.proofs.Common.{length, ◌-◌}
use Rattle.past_model.specs.Moment.{marked_places}
use Rattle.past_model.proofs.Listing.{Listed}
use Rattle.past_model.proofs.plain.push_siblings.Given as goal

abbrev pub invariant-loop-back : goal.invariant-loop-back
invariant-loop-back l = Listed l.history (marked_places l.marks) l.writer l.fn.values.items l.values.items (length l.history - l.back)
