use Rattle.std.proofs.Common.{◌-◌, [], get_or, length, take}
use Rattle.world_core.specs.Sharing.{frames_after}
use Rattle.world_core.proofs.Keeping.{Walking}
use Rattle.world_core.proofs.frames.keeper.Given as goal

abbrev pub invariant-loop-frame : goal.invariant-loop-frame
invariant-loop-frame l = let frame = get_or (frames_after [] l.kept) l.place [] in
    Walking (frames_after [] l.kept) l.place l.at l.count (take (length frame - l.count) frame)

abbrev pub decreases-loop-frame : goal.decreases-loop-frame
decreases-loop-frame l = l.at
