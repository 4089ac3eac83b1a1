use Rattle.std.proofs.Common.{◌<◌, length, arith}
use Rattle.exchange.specs.Whole.{answers_to_all}
use Rattle.exchange.proofs.Taking.{answered_more}
use Rattle.exchange.proofs.reconciling.answer_all.Goals as goal

pub loop-message-preserved : goal.loop-message-preserved
loop-message-preserved c =
    let lt : c.loop-message.message-index < length c.args.messages.now = omega arith in
    answered_more c.args.held.now c.args.messages.now c.loop-message.message-index c.message-item.result lt c.message-item.is
    c.loop-message.answers.items c.in_ok-own.own.items c.add_all.new.answers.items (answers_to_all c.args.held.now c.args.messages.now)
    c.in_ok-own.ensures c.in_ok-add_all.ensures c.loop-message.invariant
