use Rattle.std.proofs.Common.{◌≡◌, ◌-◌, List, drop, take}
use Rattle.meta_frame.specs.Frame.{Spells}
use Rattle.meta_frame.specs.declared.message.Frame.{Frame}
use Rattle.world_core.specs.Tells.{Pairwise, tell_frames}
use Rattle.world_core.proofs.world.World.tell_frames.Given as goal

abbrev pub invariant-loop-offset : goal.invariant-loop-offset
invariant-loop-offset l = (frames : List Frame) → Pairwise Spells frames l.fn.self.frames
    → l.told ≡ tell_frames l.node (take l.offset (drop (l.numbers.first - 1) frames)) l.fn.told
