use Rattle.std.proofs.Common.{arith}
use Rattle.frame_fields.specs.Field.{prefixes}
use Rattle.frame_readers.specs.Reader.{prefixes_reader}
use Rattle.frame_readers.proofs.Listed.{prefixes_reads}
use Rattle.frame_readers.proofs.Found.{spelled_fits}
use Rattle.frame_readers.proofs.listing.read_prefixes.Goals as goal

pub new-requires : goal.new-requires
new-requires c = spelled_fits prefixes prefixes_reader prefixes_reads c.args.bytes.now c.in_ok-rows.rows.items c.in_ok-rows.rest.now (λ i. omega (arith, c.type_inv.bytes i)) c.in_ok-rows.ensures
