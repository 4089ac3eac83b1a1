use Rattle.dvvset.specs.Object.{IsCounter}
use Rattle.dvvset.proofs.Rising.{Tested}
use Rattle.dvvset.proofs.vector.is_vector.Given as goal

abbrev pub invariant-loop-counter : goal.invariant-loop-counter
invariant-loop-counter l = Tested (λ c. c.id) IsCounter l.counters l.counter-index l.low
