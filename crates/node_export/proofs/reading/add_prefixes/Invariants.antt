use Rattle.std.proofs.Common.{◌≡◌, ◌++◌, take}
use Rattle.std.specs.List.{flat_map}
use Rattle.frame_fields.specs.Field.{prefix}
use Rattle.node_export.proofs.reading.add_prefixes.Given as goal

abbrev pub invariant-loop-prefix : goal.invariant-loop-prefix
invariant-loop-prefix l = l.bytes.items ≡ l.fn.bytes.items ++ flat_map prefix.spell (take l.prefix-index l.prefixes)
