use Rattle.std.proofs.Common.{◌≡◌, take}
use Rattle.std.specs.Prelude.{◌↔◌}
use Rattle.sealed_frames.proofs.sealing.difference.Given as goal

abbrev pub invariant-loop-place : goal.invariant-loop-place
invariant-loop-place l = (l.bits ≡ 0) ↔ (take l.place l.one ≡ take l.place l.other)
