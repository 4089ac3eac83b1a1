use Rattle.std.proofs.Common.{◌≡◌, ◌++◌, take}
use Rattle.dvvset.proofs.merge.push_entries.Given as goal

abbrev pub invariant-loop-entry : goal.invariant-loop-entry
invariant-loop-entry l = l.merged.items ≡ l.fn.merged.items ++ take l.entry-index l.entries
