use Rattle.std.proofs.Common.{arith}
use Rattle.node_file.proofs.FoundOld.{object_from_old_entries}
use Rattle.node_file.proofs.old.read_old_object.Goals as goal

pub new-requires : goal.new-requires
new-requires c = object_from_old_entries c.args.bytes.now c.in_ok-entries.entries.items c.in_ok-entries.rest.now (λ i. omega (arith, c.type_inv.bytes i)) c.in_ok-entries.ensures
