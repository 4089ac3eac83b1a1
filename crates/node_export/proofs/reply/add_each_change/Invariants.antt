use Rattle.std.proofs.Common.{◌≡◌, ◌++◌, take}
use Rattle.std.specs.List.{flat_map}
use Rattle.node_export.specs.Spelling.{change_bytes}
use Rattle.node_export.proofs.reply.add_each_change.Given as goal

abbrev pub invariant-loop-change : goal.invariant-loop-change
invariant-loop-change l = l.bytes.items ≡ l.fn.bytes.items ++ flat_map change_bytes (take l.change-index l.changes)
