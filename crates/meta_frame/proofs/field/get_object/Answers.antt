use Rattle.std.proofs.Common.{arith}
use Rattle.frame_fields.specs.Field.{object}
use Rattle.frame_readers.specs.Reader.{object_reader}
use Rattle.frame_readers.proofs.Fields.{object_reads}
use Rattle.meta_frame.proofs.Fronts.{begins, refuses_field}
use Rattle.meta_frame.proofs.field.get_object.Goals as goal

pub returns-in-Ok-clause-found : goal.returns-in-Ok-clause-found
returns-in-Ok-clause-found c = begins object object_reader object_reads c.args.bytes.now c.in-Ok.found.0 c.in-Ok.found.1.now (λ i. omega (arith, c.type_inv.bytes i)) c.in-Ok.ensures

pub returns-in-Err-clause-refused : goal.returns-in-Err-clause-refused
returns-in-Err-clause-refused c = refuses_field object object_reader object_reads c.args.bytes.now c.in-Err.fault c.offset.result (λ i. omega (arith, c.type_inv.bytes i)) c.in-Err.ensures c.offset.ensures
