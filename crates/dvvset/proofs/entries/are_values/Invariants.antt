use Rattle.std.proofs.Common.{take}
use Rattle.std.specs.Prelude.{All}
use Rattle.meta_types.specs.Value.{IsValue}
use Rattle.dvvset.proofs.entries.are_values.Given as goal

abbrev pub invariant-loop-value : goal.invariant-loop-value
invariant-loop-value l = All IsValue (take l.value-index l.values)
