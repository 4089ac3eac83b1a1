use Rattle.std.proofs.Common.{◌≡◌, ◌<◌, ℕ, slice_get, Some}
use Rattle.run_record.proofs.giving.place_of.Given as goal

-- none so far is the frame
abbrev pub invariant-loop-place : goal.invariant-loop-place
invariant-loop-place l = (k : ℕ) → k < l.place → slice_get l.frames k ≡ Some l.frame → ⊥
