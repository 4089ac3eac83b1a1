use Rattle.std.proofs.Common.{◌≡◌, ◌-◌, drop, take}
use Rattle.world_core.specs.Chronicle.{frames_in}
use Rattle.world_core.proofs.chronicle.Chronicle.frames_at.Given as goal

abbrev pub invariant-loop-place : goal.invariant-loop-place
invariant-loop-place l = l.frames.items ≡ take (l.place - l.first) (drop l.first (frames_in l.self))
