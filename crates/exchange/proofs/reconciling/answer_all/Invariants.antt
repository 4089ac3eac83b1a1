use Rattle.std.proofs.Common.{◌≡◌, ◌++◌, drop}
use Rattle.exchange.specs.Whole.{answers_to_all}
use Rattle.exchange.proofs.reconciling.answer_all.Given as goal

abbrev pub invariant-loop-message : goal.invariant-loop-message
invariant-loop-message l = l.answers.items ++ answers_to_all l.held (drop l.message-index l.messages) ≡ answers_to_all l.held l.messages
