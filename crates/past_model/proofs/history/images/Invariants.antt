use Rattle.std.proofs.Common.{◌≡◌, ◌≤◌, take}
use Rattle.past_model.specs.Past.{past}
use Rattle.past_model.proofs.history.images.Given as goal

abbrev pub invariant-loop-happening : goal.invariant-loop-happening
invariant-loop-happening l = (l.images ≤ l.happening-index) × (l.images ≡ (past (take l.happening-index l.before)).last l.node)
