use Rattle.std.proofs.Common.{map, take}
use Rattle.frame_fields.specs.Field.{key_row_parts}
use Rattle.hash_tree.specs.Hashing.{Adds}
use Rattle.hash_tree.specs.Tree.{text_of}
use Rattle.hash_tree.proofs.bucket.add_rows.Given as goal

abbrev pub invariant-loop-row : goal.invariant-loop-row
invariant-loop-row l = Adds l.fn.hasher l.hasher (text_of (map key_row_parts (take l.row-index l.rows)))
