use Rattle.std.proofs.Common.{arith}
use Rattle.frame_fields.specs.Field.{digests}
use Rattle.frame_readers.specs.Reader.{digests_reader}
use Rattle.frame_readers.proofs.Listed.{digests_reads}
use Rattle.frame_readers.proofs.Found.{spelled_fits}
use Rattle.frame_readers.proofs.listing.read_digests.Goals as goal

pub new-requires : goal.new-requires
new-requires c = spelled_fits digests digests_reader digests_reads c.args.bytes.now c.in_ok-digests.digests.items c.in_ok-digests.rest.now (λ i. omega (arith, c.type_inv.bytes i)) c.in_ok-digests.ensures
