use Rattle.std.proofs.Common.{take, map, true}
use Rattle.dvvset.specs.Clock.{values_of}
use Rattle.printing.specs.Field.{value_text}
use Rattle.printing.specs.Joined.{AddsTexts}
use Rattle.printing.proofs.list.add_entries.Given as goal

abbrev pub invariant-loop-entry : goal.invariant-loop-entry
invariant-loop-entry l = AddsTexts true (map value_text (values_of (take l.entry-index l.entries))) l.fn.out.items l.out.items l.first
