use Rattle.std.proofs.Common.{◌≡◌, ◌++◌}
use Rattle.past_model.specs.Moment.{lives_of}
use Rattle.past_model.proofs.plain.push_lives.Given as goal

abbrev pub invariant-loop-life : goal.invariant-loop-life
invariant-loop-life l = l.writers.items ≡ l.fn.writers.items ++ lives_of l.number l.life
