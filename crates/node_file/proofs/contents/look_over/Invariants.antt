use Rattle.std.proofs.Common.{◌≡◌, length}
use Rattle.node_file.specs.Fold.{life_from}
use Rattle.node_file.proofs.contents.look_over.Given as goal

abbrev pub invariant-loop-rest : goal.invariant-loop-rest
invariant-loop-rest l = life_from l.version l.life 0 l.rest ≡ life_from l.version l.begun 0 l.bytes

abbrev pub decreases-loop-rest : goal.decreases-loop-rest
decreases-loop-rest l = length l.rest
