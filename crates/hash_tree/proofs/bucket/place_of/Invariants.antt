use Rattle.hash_tree.proofs.ByPlace.{IsPast}
use Rattle.hash_tree.proofs.bucket.place_of.Given as goal

abbrev pub invariant-loop-place : goal.invariant-loop-place
invariant-loop-place l = IsPast l.key l.rows l.place
