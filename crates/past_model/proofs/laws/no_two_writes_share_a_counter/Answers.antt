use Rattle.std.proofs.Common.{sym, ◌∙◌}
use Rattle.past_model.proofs.Counted.{one_counter}
use Rattle.past_model.proofs.laws.no_two_writes_share_a_counter.Goals as goal

pub returns : goal.returns
returns c = λ hs history before earlier n m counter k one two writer. one_counter hs history n m k before one.later earlier two.later one.value two.value one.read_at two.read_at one.split two.split writer (sym one.counted ∙ two.counted)
