use Rattle.past_model.proofs.Fitting.{FitSoFar}
use Rattle.past_model.proofs.history.fits.Given as goal

abbrev pub invariant-loop-place : goal.invariant-loop-place
invariant-loop-place l = FitSoFar l.history l.place
