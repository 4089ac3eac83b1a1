use Rattle.std.proofs.Common.{◌+◌, ◌<◌, length, arith}
use Rattle.exchange.specs.Whole.{answers_in_turn, refusal_of_all, table_after_all}
use Rattle.exchange.proofs.Taking.{front_more, refusal_more, rest_more, told_more}
use Rattle.exchange.proofs.reconciling.take_all.Goals as goal

pub loop-message-preserved : goal.loop-message-preserved
loop-message-preserved c =
    let lt : c.loop-message.message-index < length c.args.messages.now = omega arith in
    record {
      front = front_more c.loop-message.held c.args.messages.now c.loop-message.message-index c.message-item.result lt c.message-item.is c.take.new.held c.in_ok-take.ensures.value
          c.args.held.now c.loop-message.invariant.front;
      rest = rest_more c.loop-message.held c.args.messages.now c.loop-message.message-index c.message-item.result lt c.message-item.is c.take.new.held c.in_ok-take.ensures.value
          (table_after_all c.args.held.now c.args.messages.now) c.loop-message.invariant.rest;
      told = told_more c.loop-message.held c.args.messages.now c.loop-message.message-index c.message-item.result lt c.message-item.is c.take.new.held c.in_ok-take.ensures.value
          c.loop-message.answers.items c.in_ok-own.own.items c.add_all.new.answers.items (answers_in_turn c.args.held.now c.args.messages.now)
          c.in_ok-own.ensures c.in_ok-add_all.ensures c.loop-message.invariant.told;
      refusal = refusal_more c.loop-message.held c.args.messages.now c.loop-message.message-index c.message-item.result lt c.message-item.is c.take.new.held c.in_ok-take.ensures.value
          (refusal_of_all c.args.held.now c.args.messages.now) c.in_ok-take.ensures.no_refusal c.loop-message.invariant.refusal;
    }

pub returns-in_err-own-clause-front : goal.returns-in_err-own-clause-front
returns-in_err-own-clause-front c =
    let lt : c.loop-message.message-index < length c.args.messages.now = omega arith in (
      c.loop-message.message-index + 1,
      front_more c.loop-message.held c.args.messages.now c.loop-message.message-index c.message-item.result lt c.message-item.is c.take.new.held c.in_ok-take.ensures.value
          c.args.held.now c.loop-message.invariant.front,
    )

pub returns-in_err-add_all-clause-front : goal.returns-in_err-add_all-clause-front
returns-in_err-add_all-clause-front c =
    let lt : c.loop-message.message-index < length c.args.messages.now = omega arith in (
      c.loop-message.message-index + 1,
      front_more c.loop-message.held c.args.messages.now c.loop-message.message-index c.message-item.result lt c.message-item.is c.take.new.held c.in_ok-take.ensures.value
          c.args.held.now c.loop-message.invariant.front,
    )
