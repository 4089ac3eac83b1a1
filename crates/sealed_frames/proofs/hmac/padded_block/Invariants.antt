use Rattle.std.proofs.Common.{◌≡◌}
use Rattle.sealed_frames.proofs.Padding.{padded_so_far}
use Rattle.sealed_frames.proofs.hmac.padded_block.Given as goal

abbrev pub invariant-loop-place : goal.invariant-loop-place
invariant-loop-place l = l.block ≡ padded_so_far l.bytes l.pad l.place
