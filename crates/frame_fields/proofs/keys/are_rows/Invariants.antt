use Rattle.std.proofs.Common.{[]}
use Rattle.frame_fields.specs.Field.{key_row, key_bytes}
use Rattle.frame_fields.proofs.Tested.{Tested}
use Rattle.frame_fields.proofs.keys.are_rows.Given as goal

abbrev pub invariant-loop-row : goal.invariant-loop-row
invariant-loop-row l = Tested key_row key_bytes [] l.rows l.row-index l.low
