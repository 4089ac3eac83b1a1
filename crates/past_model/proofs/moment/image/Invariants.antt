use Rattle.past_model.proofs.Latest.{Counting}
use Rattle.past_model.proofs.moment.image.Given as goal

abbrev pub invariant-loop-place : goal.invariant-loop-place
invariant-loop-place l = Counting l.history l.place l.node l.number l.images
