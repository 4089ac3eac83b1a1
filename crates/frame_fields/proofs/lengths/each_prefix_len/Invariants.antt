use Rattle.std.proofs.Common.{◌≡◌, ◌+◌, ◌*◌, ◌≤◌, length, drop}
use Rattle.std.specs.List.{flat_map}
use Rattle.frame_fields.specs.Field.{prefix_row, lowest}
use Rattle.frame_fields.proofs.lengths.each_prefix_len.Given as goal

abbrev pub invariant-loop-row : goal.invariant-loop-row
invariant-loop-row l =
    (l.len + length (flat_map (prefix_row lowest).spell (drop l.row-index l.rows)) ≡ length (flat_map (prefix_row lowest).spell l.rows)) × (l.len ≤ 164 * l.row-index)
