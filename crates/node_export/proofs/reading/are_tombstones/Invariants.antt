use Rattle.std.proofs.Common.{◌≡◌, take}
use Rattle.std.specs.List.{list_all}
use Rattle.node_export.specs.Spelling.{is_tombstone}
use Rattle.node_export.proofs.reading.are_tombstones.Given as goal

abbrev pub invariant-loop-value : goal.invariant-loop-value
invariant-loop-value l = l.are_all ≡ list_all is_tombstone (take l.value-index l.values)
