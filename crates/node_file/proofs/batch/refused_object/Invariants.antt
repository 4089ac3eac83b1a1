use Rattle.node_file.proofs.Batches.{IsPassed}
use Rattle.node_file.proofs.batch.refused_object.Given as goal

abbrev pub invariant-loop-place : goal.invariant-loop-place
invariant-loop-place l = IsPassed l.gate l.objects l.place l.end
