use Rattle.std.proofs.Common.{◌≡◌, ◌+◌, length, map}
use Rattle.node_file.specs.Clean.{row_record}
use Rattle.node_file.specs.Reads.{with_each}
use Rattle.node_file.proofs.Tables.{IsWritten}
use Rattle.meta_store.specs.Kept.{table_of}
use Rattle.node_file.proofs.rewriting.write_table.Given as goal

abbrev pub invariant-loop-prefix : goal.invariant-loop-prefix
invariant-loop-prefix g l = record {
  written : IsWritten (g.D.Device.content l.fn.device) (g.D.Device.content l.device) l.table (table_of l.prefix-iterator) l.gate;
  bytes : with_each (g.D.Device.content l.device) (map row_record (table_of l.prefix-iterator)) ≡ with_each (g.D.Device.content l.fn.device) (map row_record l.table);
  last : length (g.D.Device.content l.device) ≡ l.gate + 1;
  still : g.D.Device.failed l.device ≡ g.D.Device.failed l.fn.device;
}
