use Rattle.std.proofs.Common.{◌≡◌, ◌++◌, drop}
use Rattle.plumtree.proofs.missing.copy_missing.Given as goal

abbrev pub invariant-loop-object : goal.invariant-loop-object
invariant-loop-object l = l.copy.items ++ drop l.object-index l.missing ≡ l.missing
