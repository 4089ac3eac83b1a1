use Rattle.std.proofs.Common.{◌≡◌, ◌++◌, take}
use Rattle.std.specs.List.{flat_map}
use Rattle.node_export.specs.Spelling.{marked_key}
use Rattle.node_export.proofs.reading.add_keys.Given as goal

abbrev pub invariant-loop-key : goal.invariant-loop-key
invariant-loop-key l = l.bytes.items ≡ l.fn.bytes.items ++ flat_map (marked_key l.store) (take l.key-index l.keys)
