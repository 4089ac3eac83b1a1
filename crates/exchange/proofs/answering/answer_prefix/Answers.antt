use Rattle.std.proofs.Common.{cond, [], ◌∷◌, ◌++◌, sym, ap, ◌∙◌}
use Rattle.exchange.specs.Answers.{inner_message}
use Rattle.exchange.proofs.answering.answer_prefix.Goals as goal

pub returns : goal.returns
returns c =
    c.in_ok-push.ensures.items
    ∙ ap (λ m. c.args.answers.now.items ++ m ∷ []) c.in_ok-inner_message.ensures
    ∙ ap (λ b. c.args.answers.now.items ++ cond b (inner_message c.args.held.now c.args.next.now.key.now ∷ []) []) (sym c.if-not-next.false)
