use Rattle.std.proofs.Common.{take, map, true}
use Rattle.printing.specs.Object.{counter_text}
use Rattle.printing.specs.Joined.{AddsTexts}
use Rattle.printing.proofs.list.add_counters.Given as goal

abbrev pub invariant-loop-counter : goal.invariant-loop-counter
invariant-loop-counter l = AddsTexts true (map counter_text (take l.counter-index l.counters)) l.fn.out.items l.out.items l.first
