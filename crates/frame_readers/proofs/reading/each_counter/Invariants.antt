use Rattle.std.proofs.Common.{◌≡◌, ◌-◌, ◌≤◌, ◌*◌}
use Rattle.meta_types.specs.Actor.{incarnations}
use Rattle.frame_fields.specs.Field.{above_counter}
use Rattle.frame_readers.specs.Reader.{counter_reader, each_reader}
use Rattle.frame_readers.proofs.Loops.{with_front}
use Rattle.frame_readers.proofs.reading.each_counter.Given as goal

abbrev pub invariant-loop : goal.invariant-loop
invariant-loop l = (with_front l.counters.items (each_reader counter_reader above_counter l.low (l.len - l.counter) l.rest) ≡ each_reader counter_reader above_counter 0 l.len l.bytes) × (l.low ≤ 16 * incarnations)
