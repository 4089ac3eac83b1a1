use Rattle.std.proofs.Common.{take, map, true}
use Rattle.printing.specs.Row.{prefix_row_text}
use Rattle.printing.specs.Joined.{AddsTexts}
use Rattle.printing.proofs.row.add_each_prefix.Given as goal

abbrev pub invariant-loop-row : goal.invariant-loop-row
invariant-loop-row l = AddsTexts true (map prefix_row_text (take l.row-index l.rows)) l.fn.out.items l.out.items l.first
