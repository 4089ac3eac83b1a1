use Rattle.exchange.proofs.Answered.{answers_inner, answers_leaves}
use Rattle.exchange.proofs.answering.answer.Goals as goal

pub returns-in-XInner : goal.returns-in-XInner
returns-in-XInner c =
    answers_inner c.args.held.now c.in-XInner.prefix c.in-XInner.digests c.as_slice.result.now c.as_slice.ensures.value c.args.message.now (λ v. v.items) c.answer_inner.result
    c.in-XInner.is c.answer_inner.ensures

pub returns-in-XLeaves : goal.returns-in-XLeaves
returns-in-XLeaves c =
    answers_leaves c.args.held.now c.in-XLeaves.prefix c.in-XLeaves.digests c.as_slice-in-XLeaves.result.now c.as_slice-in-XLeaves.ensures.value c.args.message.now (λ v. v.items) c.answer_leaves.result
    c.in-XLeaves.inner c.in-XLeaves.is c.answer_leaves.ensures
