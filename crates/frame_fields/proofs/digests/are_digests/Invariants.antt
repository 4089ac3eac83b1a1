use Rattle.std.proofs.Common.{ℕ}
use Rattle.frame_fields.specs.Field.{digest, forget, no_state}
use Rattle.frame_fields.proofs.Tested.{Tested}
use Rattle.frame_fields.proofs.digests.are_digests.Given as goal

abbrev pub invariant-loop-digest : goal.invariant-loop-digest
invariant-loop-digest l = Tested (λ (_ : ℕ). digest) forget no_state l.parts l.digest-index no_state
