use Rattle.std.proofs.Common.{arith}
use Rattle.frame_fields.specs.Field.{nodes}
use Rattle.frame_readers.specs.Reader.{nodes_reader}
use Rattle.frame_readers.proofs.Listed.{nodes_reads}
use Rattle.frame_readers.proofs.Found.{spelled_fits}
use Rattle.frame_readers.proofs.listing.read_nodes.Goals as goal

pub new-requires : goal.new-requires
new-requires c = spelled_fits nodes nodes_reader nodes_reads c.args.bytes.now c.in_ok-nodes.nodes.items c.in_ok-nodes.rest.now (λ i. omega (arith, c.type_inv.bytes i)) c.in_ok-nodes.ensures
