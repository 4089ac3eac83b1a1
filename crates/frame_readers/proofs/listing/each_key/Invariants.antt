use Rattle.std.proofs.Common.{◌≡◌, ◌-◌, []}
use Rattle.frame_fields.specs.Field.{key_bytes}
use Rattle.frame_readers.specs.Reader.{key_row_reader, each_reader}
use Rattle.frame_readers.proofs.Loops.{with_front}
use Rattle.frame_readers.proofs.listing.each_key.Given as goal

abbrev pub invariant-loop : goal.invariant-loop
invariant-loop l = with_front l.rows.items (each_reader key_row_reader key_bytes l.low (l.len - l.counter) l.rest) ≡ each_reader key_row_reader key_bytes [] l.len l.bytes
