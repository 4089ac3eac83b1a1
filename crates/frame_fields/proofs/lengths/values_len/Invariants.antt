use Rattle.std.proofs.Common.{◌≡◌, ◌+◌, ◌*◌, ◌≤◌, length, drop}
use Rattle.frame_fields.specs.Form.{spell_each}
use Rattle.frame_fields.specs.Field.{value, forget, no_state}
use Rattle.frame_fields.proofs.lengths.values_len.Given as goal

abbrev pub invariant-loop-value : goal.invariant-loop-value
invariant-loop-value l =
    (l.len + length (spell_each (λ _. value) forget no_state (drop l.value-index l.values)) ≡ length (spell_each (λ _. value) forget no_state l.values)) × (l.len ≤ 1035 * l.value-index)
