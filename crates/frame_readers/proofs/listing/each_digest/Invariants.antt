use Rattle.std.proofs.Common.{◌≡◌, ◌-◌}
use Rattle.frame_fields.specs.Field.{no_state, forget}
use Rattle.frame_readers.specs.Reader.{digest_reader, each_reader}
use Rattle.frame_readers.proofs.Loops.{with_front}
use Rattle.frame_readers.proofs.listing.each_digest.Given as goal

abbrev pub invariant-loop : goal.invariant-loop
invariant-loop l = with_front l.digests.items (each_reader (λ _. digest_reader) forget no_state (16 - l.counter) l.rest) ≡ each_reader (λ _. digest_reader) forget no_state 16 l.bytes
