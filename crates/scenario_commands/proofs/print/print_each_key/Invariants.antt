use Rattle.std.proofs.Common.{take, map, true}
use Rattle.meta_types.specs.Name.{Key}
use Rattle.printing.specs.Field.{bytes_text}
use Rattle.printing.specs.Joined.{AddsTexts}
use Rattle.scenario_commands.proofs.print.print_each_key.Given as goal

abbrev pub invariant-loop-key : goal.invariant-loop-key
invariant-loop-key l = AddsTexts true (map (λ (x : Key). bytes_text x.key) (take l.key-index l.keys)) l.fn.out.items l.out.items l.first
