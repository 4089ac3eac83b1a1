use Rattle.std.proofs.Common.{◌+◌, ◌-◌, is_err, ap, sym, subst, arith}
use Rattle.std.proofs.lemmas.Result.{err_from_is_err_and}
use Rattle.cluster_worker.specs.Call.{HasMade}
use Rattle.cluster_worker.proofs.Conveying.{asked_of, first_asked, one_turn, unless_err}
use Rattle.cluster_worker.proofs.turns.make_all.Goals as goal

pub returns-in_err-join_first-clause-works : goal.returns-in_err-join_first-clause-works
returns-in_err-join_first-clause-works g c =
    let inboxes = c.args.shared.now.inboxes.now in
    let plan = c.args.shared.now.plan in
    let first = c.args.worker.now in
    let result = c.from_residual.result in
    let p = err_from_is_err_and result c.from_residual.ensures.1 in
    let made = subst (λ b. HasMade b plan.turns 0) (sym (ap is_err p.1)) (omega arith) in
    unless_err result c.in_err-join_first.field-0.0 p.0 _ _ p.1 p.2
    (λ fact. asked_of plan inboxes first.node 1 (is_err result) first c.join_first.new.worker made (first_asked plan inboxes first.node first c.join_first.new.worker fact))
    c.in_err-join_first.ensures.works

pub loop-turn-init : goal.loop-turn-init
loop-turn-init g c = record {
  worker = c.in_ok-join_first.ensures.worker;
  works = first_asked c.args.shared.now.plan c.args.shared.now.inboxes.now c.args.worker.now.node c.args.worker.now c.join_first.new.worker c.in_ok-join_first.ensures.works;
  few = omega arith;
}

pub loop-turn-preserved : goal.loop-turn-preserved
loop-turn-preserved g c = record {
  worker = c.in_ok-made.ensures.worker;
  works = one_turn c.args.shared.now.plan c.args.shared.now.inboxes.now c.args.worker.now.node c.loop-turn.turn c.args.worker.now c.loop-turn.worker c.make_turn-made.new.worker
      c.loop-turn.invariant.works c.in_ok-made.ensures.works;
  few = omega (arith, c.loop-turn-test.true);
}

pub returns-in_err-made-clause-works : goal.returns-in_err-made-clause-works
returns-in_err-made-clause-works g c =
    let inboxes = c.args.shared.now.inboxes.now in
    let plan = c.args.shared.now.plan in
    let turn = c.loop-turn.turn in
    let first = c.args.worker.now in
    let last = c.make_turn-made.new.worker in
    let result = c.from_residual-in_err-made.result in
    let p = err_from_is_err_and result c.from_residual-in_err-made.ensures.1 in
    let made = subst (λ b. HasMade b plan.turns (turn + 1 - 1)) (sym (ap is_err p.1)) (omega (arith, c.loop-turn-test.true)) in
    unless_err result c.in_err-made.field-0.0 p.0 _ _ p.1 p.2
    (λ fact. asked_of plan inboxes first.node (turn + 1) (is_err result) first last made (one_turn plan inboxes first.node turn first c.loop-turn.worker last c.loop-turn.invariant.works fact))
    c.in_err-made.ensures.works

pub returns-in_ok-join_first-clause-works : goal.returns-in_ok-join_first-clause-works
returns-in_ok-join_first-clause-works g c =
    let past = c.loop-turn-test.false in
    asked_of c.args.shared.now.plan c.args.shared.now.inboxes.now c.args.worker.now.node c.loop-turn.turn _ c.args.worker.now c.loop-turn.worker
    (omega (arith, past, c.loop-turn.invariant.few)) c.loop-turn.invariant.works

pub returns-in_ok-made-clause-works : goal.returns-in_ok-made-clause-works
returns-in_ok-made-clause-works g c =
    let inboxes = c.args.shared.now.inboxes.now in
    let first = c.args.worker.now in
    let turn = c.loop-turn.turn in
    asked_of c.args.shared.now.plan inboxes first.node (turn + 1) _ first c.make_turn-made.new.worker (omega (arith, c.loop-turn-test.true))
    (one_turn c.args.shared.now.plan inboxes first.node turn first c.loop-turn.worker c.make_turn-made.new.worker c.loop-turn.invariant.works c.in_ok-made.ensures.works)
