use Rattle.std.proofs.Common.{take}
use Rattle.std.specs.List.{concat}
use Rattle.hash_tree.specs.Hashing.{HasTaken}
use Rattle.hash_tree.proofs.hashing.digest_of_all.Given as goal

abbrev pub invariant-loop-digest : goal.invariant-loop-digest
invariant-loop-digest l = HasTaken l.hasher (concat (take l.digest-index l.digests))
