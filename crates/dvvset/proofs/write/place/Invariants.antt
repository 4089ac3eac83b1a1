use Rattle.std.proofs.Common.{ℕ, ◌<◌, get_or}
use Rattle.dvvset.specs.Object.{Entry}
use Rattle.dvvset.proofs.write.place.Given as goal

abbrev pub invariant-loop-at : goal.invariant-loop-at
invariant-loop-at l = (k : ℕ) (d : Entry) → k < l.at → (get_or l.entries k d).id < l.id
