use Rattle.std.proofs.Common.{◌≡◌, ◌++◌, All}
use Rattle.std.specs.List.{flat_map}
use Rattle.meta_store.specs.Kept.{rows_under}
use Rattle.meta_store.proofs.Kept.{IsNamed}
use Rattle.plumctl_file.specs.Report.{key_line}
use Rattle.plumctl_file.proofs.text.add_rows.Given as goal

abbrev pub invariant-loop-key : goal.invariant-loop-key
invariant-loop-key l = record {
  named : All IsNamed l.key-iterator;
  text : l.text.items ++ flat_map key_line (rows_under l.prefix l.key-iterator) ≡ l.fn.text.items ++ flat_map key_line (rows_under l.prefix l.rows);
}
