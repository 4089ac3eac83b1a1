use Rattle.std.proofs.Common.{take, map}
use Rattle.printing.specs.Field.{value_text}
use Rattle.printing.specs.Joined.{AddsTexts}
use Rattle.printing.proofs.list.add_values.Given as goal

abbrev pub invariant-loop-value : goal.invariant-loop-value
invariant-loop-value l = AddsTexts l.fn.first (map value_text (take l.value-index l.values)) l.fn.out.items l.out.items l.first
