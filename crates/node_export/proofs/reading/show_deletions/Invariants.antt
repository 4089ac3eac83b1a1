use Rattle.std.proofs.Common.{◌≡◌, take}
use Rattle.std.specs.List.{list_all}
use Rattle.dvvset.specs.Clock.{values_of}
use Rattle.node_export.specs.Spelling.{is_tombstone}
use Rattle.node_export.proofs.reading.show_deletions.Given as goal

abbrev pub invariant-loop-entry : goal.invariant-loop-entry
invariant-loop-entry l = l.are_all ≡ list_all is_tombstone (values_of (take l.entry-index l.entries))
