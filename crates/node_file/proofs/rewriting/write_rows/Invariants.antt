use Rattle.std.proofs.Common.{◌≡◌, ◌+◌, ◌++◌, All, length, map}
use Rattle.meta_store.specs.Kept.{rows_under}
use Rattle.meta_store.proofs.Kept.{IsNamed}
use Rattle.node_file.specs.Clean.{row_record}
use Rattle.node_file.specs.File.{file_state}
use Rattle.node_file.specs.Reads.{with_each}
use Rattle.node_file.proofs.Tables.{IsWritten}
use Rattle.node_file.proofs.rewriting.write_rows.Given as goal

abbrev pub invariant-loop-key : goal.invariant-loop-key
invariant-loop-key g l = record {
  written : IsWritten (g.D.Device.content l.fn.device) (g.D.Device.content l.device) ((file_state (g.D.Device.content l.fn.device)).contents.table ++ rows_under l.prefix l.rows) (rows_under l.prefix l.key-iterator) l.gate;
  named : All IsNamed l.key-iterator;
  bytes : with_each (g.D.Device.content l.device) (map row_record (rows_under l.prefix l.key-iterator)) ≡ with_each (g.D.Device.content l.fn.device) (map row_record (rows_under l.prefix l.rows));
  last : length (g.D.Device.content l.device) ≡ l.gate + 1;
  still : g.D.Device.failed l.device ≡ g.D.Device.failed l.fn.device;
}
