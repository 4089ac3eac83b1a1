use Rattle.past_model.specs.Moment.{IsLatest}
use Rattle.past_model.proofs.moment.latest.Given as goal

abbrev pub invariant-loop-place : goal.invariant-loop-place
invariant-loop-place l = IsLatest l.history l.place l.node l.moment
