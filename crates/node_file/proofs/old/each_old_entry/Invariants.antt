use Rattle.std.proofs.Common.{◌≡◌, ◌-◌, ◌≤◌, ◌*◌}
use Rattle.meta_types.specs.Actor.{incarnations}
use Rattle.frame_fields.specs.Field.{above_entry}
use Rattle.frame_readers.specs.Reader.{each_reader}
use Rattle.node_file.specs.Old.{old_entry_reader}
use Rattle.frame_readers.proofs.Loops.{with_front}
use Rattle.node_file.proofs.old.each_old_entry.Given as goal

abbrev pub invariant-loop : goal.invariant-loop
invariant-loop l = (with_front l.entries.items (each_reader old_entry_reader above_entry l.low (l.len - l.counter) l.rest) ≡ each_reader old_entry_reader above_entry 0 l.len l.bytes) × (l.low ≤ 16 * incarnations)
