use Rattle.past_model.specs.Past.{writes}
use Rattle.past_model.specs.Moment.{marked_places}
use Rattle.past_model.proofs.Gone.{SiblingsSoFar}
use Rattle.past_model.proofs.plain.siblings.Given as goal

abbrev pub invariant-loop-writer : goal.invariant-loop-writer
invariant-loop-writer l = SiblingsSoFar (writes l.history) (marked_places l.marks) l.writer-items l.writer-index l.values.items
