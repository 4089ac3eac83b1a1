use Rattle.restart_images.proofs.Placing.{KeptSoFar}
use Rattle.restart_images.proofs.images.keep_all.Given as goal

abbrev pub invariant-loop-entry : goal.invariant-loop-entry
invariant-loop-entry l = KeptSoFar l.fn.logs l.logs l.kept.items l.entries l.entry-index
