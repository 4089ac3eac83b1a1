use Rattle.std.proofs.Common.{◌≡◌, length, reverse}
use Rattle.restart_images.proofs.logs.are_reversed.Given as goal

abbrev pub invariant-loop-value : goal.invariant-loop-value
invariant-loop-value l = l.left ≡ reverse l.before → l.values ≡ reverse l.others

abbrev pub decreases-loop-value : goal.decreases-loop-value
decreases-loop-value l = length l.left
