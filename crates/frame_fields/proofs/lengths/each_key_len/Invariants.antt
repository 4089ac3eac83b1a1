use Rattle.std.proofs.Common.{◌≡◌, ◌+◌, ◌*◌, ◌≤◌, length, drop, []}
use Rattle.std.specs.List.{flat_map}
use Rattle.frame_fields.specs.Field.{key_row}
use Rattle.frame_fields.proofs.lengths.each_key_len.Given as goal

abbrev pub invariant-loop-row : goal.invariant-loop-row
invariant-loop-row l =
    (l.len + length (flat_map (key_row []).spell (drop l.row-index l.rows)) ≡ length (flat_map (key_row []).spell l.rows)) × (l.len ≤ 290 * l.row-index)
