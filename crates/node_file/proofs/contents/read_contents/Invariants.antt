use Rattle.std.proofs.Common.{◌≡◌, length}
use Rattle.node_file.specs.Fold.{contents_from, no_contents}
use Rattle.node_file.proofs.contents.read_contents.Given as goal

abbrev pub invariant-loop-rest : goal.invariant-loop-rest
invariant-loop-rest l = contents_from l.version l.contents 0 l.rest ≡ contents_from l.version no_contents 0 l.bytes

abbrev pub decreases-loop-rest : goal.decreases-loop-rest
decreases-loop-rest l = length l.rest
