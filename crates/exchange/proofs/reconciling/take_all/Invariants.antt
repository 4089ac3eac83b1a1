use Rattle.std.proofs.Common.{◌≡◌, ◌++◌, drop, take}
use Rattle.exchange.specs.Whole.{answers_in_turn, refusal_of_all, table_after_all}
use Rattle.exchange.proofs.reconciling.take_all.Given as goal

abbrev pub invariant-loop-message : goal.invariant-loop-message
invariant-loop-message l = record {
  front : l.held ≡ table_after_all l.fn.held (take l.message-index l.messages);
  rest : table_after_all l.held (drop l.message-index l.messages) ≡ table_after_all l.fn.held l.messages;
  told : l.answers.items ++ answers_in_turn l.held (drop l.message-index l.messages) ≡ answers_in_turn l.fn.held l.messages;
  refusal : refusal_of_all l.held (drop l.message-index l.messages) ≡ refusal_of_all l.fn.held l.messages;
}
