use Rattle.past_model.proofs.Counting.{Counts}
use Rattle.past_model.proofs.plain.count.Given as goal

abbrev pub invariant-loop-place : goal.invariant-loop-place
invariant-loop-place l = Counts l.history l.marks l.writer l.place l.count
