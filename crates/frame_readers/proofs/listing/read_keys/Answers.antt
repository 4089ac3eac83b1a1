use Rattle.std.proofs.Common.{arith}
use Rattle.frame_fields.specs.Field.{keys}
use Rattle.frame_readers.specs.Reader.{keys_reader}
use Rattle.frame_readers.proofs.Listed.{keys_reads}
use Rattle.frame_readers.proofs.Found.{spelled_fits}
use Rattle.frame_readers.proofs.listing.read_keys.Goals as goal

pub new-requires : goal.new-requires
new-requires c = spelled_fits keys keys_reader keys_reads c.args.bytes.now c.in_ok-rows.rows.items c.in_ok-rows.rest.now (λ i. omega (arith, c.type_inv.bytes i)) c.in_ok-rows.ensures
