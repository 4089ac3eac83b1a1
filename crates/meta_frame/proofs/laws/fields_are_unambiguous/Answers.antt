use Rattle.frame_fields.specs.Field.{prefix, key, vector, object}
use Rattle.frame_readers.specs.Reader.{prefix_reader, key_reader, vector_reader, object_reader}
use Rattle.frame_readers.proofs.Fields.{prefix_reads, key_reads, vector_reads, object_reads}
use Rattle.meta_frame.proofs.Fronts.{unambiguous}
use Rattle.meta_frame.proofs.laws.fields_are_unambiguous.Goals as goal

pub returns-clause-prefix : goal.returns-clause-prefix
returns-clause-prefix c = unambiguous prefix prefix_reader prefix_reads

pub returns-clause-key : goal.returns-clause-key
returns-clause-key c = unambiguous key key_reader key_reads

pub returns-clause-vector : goal.returns-clause-vector
returns-clause-vector c = unambiguous vector vector_reader vector_reads

pub returns-clause-object : goal.returns-clause-object
returns-clause-object c = unambiguous object object_reader object_reads
