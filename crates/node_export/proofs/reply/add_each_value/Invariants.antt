use Rattle.std.proofs.Common.{◌≡◌, ◌++◌, take}
use Rattle.std.specs.List.{flat_map}
use Rattle.node_export.specs.Spelling.{value_bytes}
use Rattle.node_export.proofs.reply.add_each_value.Given as goal

abbrev pub invariant-loop-value : goal.invariant-loop-value
invariant-loop-value l = l.bytes.items ≡ l.fn.bytes.items ++ flat_map value_bytes (take l.value-index l.values)
