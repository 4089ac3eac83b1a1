use Rattle.std.proofs.Common.{◌≡◌, ◌++◌, take}
use Rattle.std.specs.List.{flat_map}
use Rattle.frame_fields.specs.Field.{counter_form}
use Rattle.frame_fields.proofs.writing.write_counters.Given as goal

abbrev pub invariant-loop-counter : goal.invariant-loop-counter
invariant-loop-counter l = l.out.items ≡ l.fn.out.items ++ flat_map (counter_form 0).spell (take l.counter-index l.counters)
