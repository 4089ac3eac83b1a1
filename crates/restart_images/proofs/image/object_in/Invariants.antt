use Rattle.std.proofs.Common.{◌≡◌, ◌≤◌, length}
use Rattle.restart_images.specs.Images.{holdings}
use Rattle.restart_images.proofs.image.object_in.Given as goal

abbrev pub invariant-loop-at : goal.invariant-loop-at
invariant-loop-at l = (l.at ≤ length l.images) × (holdings l.images l.at l.key ≡ holdings l.images l.number l.key)

abbrev pub decreases-loop-at : goal.decreases-loop-at
decreases-loop-at l = l.at
