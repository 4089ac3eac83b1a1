use Rattle.frame_fields.specs.Field.{prefix_row, prefix_of, lowest}
use Rattle.frame_fields.proofs.Tested.{Tested}
use Rattle.frame_fields.proofs.prefixes.are_rows.Given as goal

abbrev pub invariant-loop-row : goal.invariant-loop-row
invariant-loop-row l = Tested prefix_row prefix_of lowest l.rows l.row-index (record { prefix = l.low; sub = l.low_sub })
