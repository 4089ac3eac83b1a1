use Rattle.std.proofs.Common.{◌≡◌, ◌++◌}
use Rattle.std.specs.List.{flat_map}
use Rattle.meta_store.specs.Kept.{table_of}
use Rattle.plumctl_file.specs.Report.{key_line}
use Rattle.plumctl_file.proofs.text.add_table.Given as goal

abbrev pub invariant-loop-prefix : goal.invariant-loop-prefix
invariant-loop-prefix l = l.text.items ++ flat_map key_line (table_of l.prefix-iterator) ≡ l.fn.text.items ++ flat_map key_line l.table
