use Rattle.std.proofs.Common.{◌≡◌, length}
use Rattle.scenario_text.specs.Hint.{is_near}
use Rattle.scenario_text.proofs.near.is_near.Given as goal

abbrev pub invariant-loop-a : goal.invariant-loop-a
invariant-loop-a l = is_near l.word l.other ≡ is_near l.left l.right

abbrev pub decreases-loop-a : goal.decreases-loop-a
decreases-loop-a l = length l.left
