use Rattle.std.proofs.Common.{◌+◌, [], cond, ltb}
use Rattle.world_core.specs.Sharing.{frames_after}
use Rattle.world_core.proofs.Keeping.{Walking}
use Rattle.world_core.proofs.frames.bytes_at.Given as goal

abbrev pub invariant-loop-left : goal.invariant-loop-left
invariant-loop-left l = Walking (frames_after [] l.kept) l.place l.at l.left l.bytes.items

abbrev pub decreases-loop-left : goal.decreases-loop-left
decreases-loop-left l = cond (ltb 0 l.left) (l.at + 1) 0
