use Rattle.std.proofs.Common.{take, map, true}
use Rattle.subscriptions.specs.declared.change.Change.{Change}
use Rattle.printing.specs.Field.{bytes_text}
use Rattle.printing.specs.Joined.{AddsTexts}
use Rattle.scenario_commands.proofs.print.print_each_change.Given as goal

abbrev pub invariant-loop-change : goal.invariant-loop-change
invariant-loop-change l = AddsTexts true (map (λ (x : Change). bytes_text x.key.key) (take l.change-index l.changes)) l.fn.out.items l.out.items l.first
