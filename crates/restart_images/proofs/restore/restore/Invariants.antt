use Rattle.restart_images.proofs.Restoring.{Filling}
use Rattle.restart_images.proofs.restore.restore.Given as goal

abbrev pub invariant-loop-at : goal.invariant-loop-at
invariant-loop-at l = Filling l.images l.number l.at l.store

abbrev pub decreases-loop-at : goal.decreases-loop-at
decreases-loop-at l = l.at
