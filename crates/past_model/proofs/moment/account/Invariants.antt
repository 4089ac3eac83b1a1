use Rattle.std.proofs.Common.{◌≡◌, ◌+◌, length}
use Rattle.past_model.specs.Moment.{AreMoments}
use Rattle.past_model.proofs.Moving.{NodesSoFar}
use Rattle.past_model.proofs.moment.account.Given as goal

abbrev pub invariant-loop-place : goal.invariant-loop-place
invariant-loop-place l = (length l.moments.items ≡ l.place + 1) × (AreMoments l.history l.moments.items × NodesSoFar l.history l.place)
