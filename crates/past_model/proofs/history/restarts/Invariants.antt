use Rattle.std.proofs.Common.{◌≡◌, ◌≤◌, take}
use Rattle.past_model.specs.Past.{past}
use Rattle.past_model.proofs.history.restarts.Given as goal

abbrev pub invariant-loop-happening : goal.invariant-loop-happening
invariant-loop-happening l = (l.restarts ≤ l.happening-index) × (l.restarts ≡ (past (take l.happening-index l.before)).restarts l.node)
