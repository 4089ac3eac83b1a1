use Rattle.std.proofs.Common.{ℕ}
use Rattle.frame_fields.specs.Field.{node, forget, no_state}
use Rattle.frame_fields.proofs.Tested.{Tested}
use Rattle.hyparview.proofs.rows.tell_ranges.Given as goal

abbrev pub invariant-loop-node : goal.invariant-loop-node
invariant-loop-node l = Tested (λ (_ : ℕ). node) forget no_state l.numbers l.node-index no_state
