use Rattle.std.proofs.Common.{◌≡◌, ◌-◌}
use Rattle.frame_fields.specs.Field.{no_state, forget}
use Rattle.frame_readers.specs.Reader.{value_reader, each_reader}
use Rattle.frame_readers.proofs.Loops.{with_front}
use Rattle.frame_readers.proofs.reading.each_value.Given as goal

abbrev pub invariant-loop : goal.invariant-loop
invariant-loop l = with_front l.values.items (each_reader (λ _. value_reader) forget no_state (l.len - l.counter) l.rest) ≡ each_reader (λ _. value_reader) forget no_state l.len l.bytes
