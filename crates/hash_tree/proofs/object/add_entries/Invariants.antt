use Rattle.std.proofs.Common.{take}
use Rattle.std.specs.List.{flat_map}
use Rattle.frame_fields.specs.Field.{entry}
use Rattle.hash_tree.specs.Hashing.{Adds}
use Rattle.hash_tree.proofs.object.add_entries.Given as goal

abbrev pub invariant-loop-entry : goal.invariant-loop-entry
invariant-loop-entry l = Adds l.fn.hasher l.hasher (flat_map (entry 0).spell (take l.entry-index l.entries))
