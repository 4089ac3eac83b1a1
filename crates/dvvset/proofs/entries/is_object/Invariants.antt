use Rattle.dvvset.specs.Object.{IsEntry}
use Rattle.dvvset.proofs.Rising.{Tested}
use Rattle.dvvset.proofs.entries.is_object.Given as goal

abbrev pub invariant-loop-entry : goal.invariant-loop-entry
invariant-loop-entry l = Tested (λ e. e.id) IsEntry l.entries l.entry-index l.low
