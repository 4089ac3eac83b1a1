use Rattle.std.proofs.Common.{◌≡◌, ◌++◌, take}
use Rattle.std.specs.List.{flat_map}
use Rattle.frame_fields.specs.Field.{prefix_row, lowest}
use Rattle.frame_fields.proofs.writing.write_each_prefix.Given as goal

abbrev pub invariant-loop-row : goal.invariant-loop-row
invariant-loop-row l = l.out.items ≡ l.fn.out.items ++ flat_map (prefix_row lowest).spell (take l.row-index l.rows)
