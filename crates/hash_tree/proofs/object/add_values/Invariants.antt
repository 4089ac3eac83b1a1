use Rattle.std.proofs.Common.{take}
use Rattle.std.specs.List.{flat_map}
use Rattle.frame_fields.specs.Field.{value}
use Rattle.hash_tree.specs.Hashing.{Adds}
use Rattle.hash_tree.proofs.object.add_values.Given as goal

abbrev pub invariant-loop-value : goal.invariant-loop-value
invariant-loop-value l = Adds l.fn.hasher l.hasher (flat_map value.spell (take l.value-index l.values))
