use Rattle.std.proofs.Common.{◌≡◌, ◌-◌}
use Rattle.frame_fields.specs.Field.{lowest, prefix_of}
use Rattle.frame_readers.specs.Reader.{prefix_row_reader, each_reader}
use Rattle.frame_readers.proofs.Loops.{with_front}
use Rattle.frame_readers.proofs.listing.each_prefix.Given as goal

abbrev pub invariant-loop : goal.invariant-loop
invariant-loop l = with_front l.rows.items (each_reader prefix_row_reader prefix_of (record { prefix = l.low; sub = l.low_sub }) (l.len - l.counter) l.rest) ≡ each_reader prefix_row_reader prefix_of lowest l.len l.bytes
