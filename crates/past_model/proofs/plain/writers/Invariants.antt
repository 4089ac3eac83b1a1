use Rattle.std.proofs.Common.{◌≡◌}
use Rattle.past_model.proofs.EachLife.{each_life}
use Rattle.past_model.proofs.plain.writers.Given as goal

abbrev pub invariant-loop-number : goal.invariant-loop-number
invariant-loop-number l = l.writers.items ≡ each_life l.history l.number
