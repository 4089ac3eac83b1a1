use Rattle.std.proofs.Common.{◌≡◌, ◌++◌, take}
use Rattle.scenario_explain.specs.OnTheWay.{spaced}
use Rattle.scenario_explain.proofs.waiting.add_spaced.Given as goal

abbrev pub invariant-loop-number : goal.invariant-loop-number
invariant-loop-number l = l.line.items ≡ l.fn.line.items ++ spaced (take l.number-index l.numbers)
