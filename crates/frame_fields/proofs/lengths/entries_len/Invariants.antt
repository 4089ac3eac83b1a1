use Rattle.std.proofs.Common.{◌≡◌, ◌+◌, ◌*◌, ◌≤◌, length, drop}
use Rattle.std.specs.List.{flat_map}
use Rattle.frame_fields.specs.Field.{entry}
use Rattle.frame_fields.proofs.lengths.entries_len.Given as goal

abbrev pub invariant-loop-entry : goal.invariant-loop-entry
invariant-loop-entry l =
    (l.len + length (flat_map (entry 0).spell (drop l.entry-index l.entries)) ≡ length (flat_map (entry 0).spell l.entries)) × (l.len ≤ 67829000 * l.entry-index)
